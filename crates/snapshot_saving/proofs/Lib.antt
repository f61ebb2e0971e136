-- The laws of a file that is written part by part.
pub mod FileLaws
