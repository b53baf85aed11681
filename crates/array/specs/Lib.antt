-- The meanings of columns, of opening one, and of its tally.
pub mod Columns
pub mod Opening
pub mod Tallies
pub mod Views
pub mod Samples
