-- Laws of writing that the functions' proofs share.
pub mod WritingLaws
