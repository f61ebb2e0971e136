-- Laws that the exported functions' proofs share.
pub mod Edges
