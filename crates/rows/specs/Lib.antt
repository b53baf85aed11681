-- The meanings of row sources.
pub mod Sources
