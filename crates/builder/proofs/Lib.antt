-- Lemmas on builders.
pub mod Cuts
pub mod Decodes
pub mod Figures
pub mod Filling
pub mod Laying
pub mod Lent
pub mod RowBits
pub mod Samples
pub mod Spaces
