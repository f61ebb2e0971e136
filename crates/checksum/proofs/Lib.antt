-- Laws of the sum of bytes, and of sums in lanes.
pub mod SumLaws
pub mod LaneLaws
