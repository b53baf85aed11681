-- The meaning of records, and of the errors of their listing.
pub mod Errors
pub mod Records
