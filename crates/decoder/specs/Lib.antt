-- The meanings of decoders.
pub mod Decoding
pub mod Hexadecimal
