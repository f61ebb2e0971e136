-- The message count (PROOF.md section 6), and the counts of messages (request N5).
pub mod Digits
pub mod Growth
pub mod Rounds
pub mod RoundBounds
pub mod Counts
pub mod CountLaws
pub mod Instances
