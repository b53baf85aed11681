-- Lemmas on opened columns.
pub mod Opens
pub mod Samples
pub mod Slots
pub mod Tallying
pub mod Texts
