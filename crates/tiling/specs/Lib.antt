-- The meaning of the tiling check and its law.
pub mod Tiling
