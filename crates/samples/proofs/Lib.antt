-- The worked examples, by computing.
pub mod Computed
