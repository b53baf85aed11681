-- The meaning of a refusal.
pub mod Refusals
