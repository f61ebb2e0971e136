-- What a row of the coordinator's is worth.
pub mod Rows
