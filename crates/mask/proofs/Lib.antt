-- Laws of one byte, of lists of flags, of the count of the set bits, and of the search for one.
pub mod Bytes
pub mod Flags
pub mod Ones
pub mod Seek
