-- The meaning of UTF-8, and of a reader that takes one byte at a time.
pub mod Abnf
pub mod Grammar
pub mod Reading
pub mod Laws
