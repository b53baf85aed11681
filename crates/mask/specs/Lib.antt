-- The meanings of bits and masks.
pub mod Bits
pub mod Masks
