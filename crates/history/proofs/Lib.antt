-- Lemmas on histories.
pub mod Opening
pub mod Proved
pub mod Turns
pub mod Following
pub mod Growing
pub mod Whole
