-- Laws of reading numbers that the functions' proofs share.
pub mod ReadingLaws
