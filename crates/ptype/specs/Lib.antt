-- The meanings of numbers of eight kinds and of the searches over them.
pub mod Integers
pub mod Searches
