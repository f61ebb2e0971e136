-- Benches saved to a file, in figures (requests N3 and N4).
pub mod Instances
pub mod Sums
