-- The lemmas: the table, the productions, a lead byte, the cutting of a text, and the run of the reader.
pub mod Table
pub mod Written
pub mod Leads
pub mod Cuts
pub mod Decided
pub mod Run
