-- What the calls of the library hand out in rows of numbers.
pub mod Rows
