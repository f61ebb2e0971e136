-- A bench as a file: how it is laid out, what is saved, and what is read back (request N3).
pub mod Layout
pub mod File
pub mod Reading
pub mod Answers
pub mod Calls
pub mod Claims
