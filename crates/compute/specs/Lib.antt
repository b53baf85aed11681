-- The meanings of selections.
pub mod Agreement
pub mod Indices
pub mod Selections
pub mod Left
