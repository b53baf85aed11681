-- The meanings of builders: what one holds with its memory, what turns a call down, and what a finished column's record is.
pub mod Bulk
pub mod Calls
pub mod Finishing
pub mod Making
pub mod Samples
pub mod Space
pub mod States
pub mod Surveys
