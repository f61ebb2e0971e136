-- Draws that a deck has forgotten (PROOF.md section 12).
pub mod Instances
pub mod Reported
pub mod Accounting
pub mod RunsAccounted
pub mod DroppedTheorem
