-- Laws that the proofs of the batch call share.
pub mod Batching
