-- Lemmas on entries and the searches over them.
pub mod Naturals
pub mod Rising
pub mod Steps
