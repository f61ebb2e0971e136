-- What holds of the lines that this crate writes.
pub mod LineClaims
