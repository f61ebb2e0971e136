-- Worklist lines read and written, and the program's transcript (PROOF.md section 11).
pub mod DecimalLaws
pub mod LineLaws
pub mod ReadBack
pub mod TakenLaws
pub mod LineTaken
pub mod WorklistLaws
pub mod TranscriptLaws
