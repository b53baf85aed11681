-- The worked examples.
pub mod Selecting
