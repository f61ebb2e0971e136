-- Laws of records as plain numbers.
pub mod Records
pub mod Inverse
