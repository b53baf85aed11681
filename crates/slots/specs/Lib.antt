-- The meanings of rows and slots.
pub mod Rows
pub mod Slots
