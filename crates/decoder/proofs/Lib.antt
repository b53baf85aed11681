-- Lemmas on decoders.
pub mod Pairs
