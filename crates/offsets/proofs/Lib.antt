-- Lemmas on what the entries of a store hold.
pub mod Held
pub mod Kept
pub mod Parts
pub mod Widths
