-- The meanings of histories.
pub mod Requests
pub mod Runs
pub mod Running
pub mod Books
pub mod Finished
pub mod Histories
pub mod Theorem
