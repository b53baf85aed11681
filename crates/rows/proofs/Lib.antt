-- Lemmas on the rows of sources.
pub mod Places
