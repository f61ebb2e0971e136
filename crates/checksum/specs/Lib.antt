-- The sum of bytes.
pub mod Sums
pub mod Rounds
