-- Laws of reading that the functions' proofs share.
pub mod StepLaws
pub mod WalkLaws
