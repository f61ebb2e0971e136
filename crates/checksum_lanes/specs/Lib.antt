-- A word as fields of equally many bits.
pub mod Fields
