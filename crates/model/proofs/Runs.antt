-- Every list of arrivals, every prefix, and the theorem (PROOF.md section 7).
pub mod RunLaws
pub mod RunInvariant
pub mod Theorem
