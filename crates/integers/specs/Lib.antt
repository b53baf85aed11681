-- The meanings of slices of any kind.
pub mod Slices
