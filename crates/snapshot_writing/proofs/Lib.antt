-- The laws of the parts of a file that is written.
pub mod PartLaws
pub mod TrailerLaws
