-- Lemmas on selections.
pub mod Surveying
pub mod Agreeing
pub mod Steps
