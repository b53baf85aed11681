-- Lemmas on offsets that cut a heap into strings.
pub mod Law
pub mod Examples
pub mod Decided
