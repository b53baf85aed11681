-- The meanings of offset stores.
pub mod Stores
