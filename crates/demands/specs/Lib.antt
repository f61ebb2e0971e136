-- What is claimed of all histories of calls.
pub mod Reading
pub mod Given
pub mod First
pub mod Second
pub mod Whole
pub mod Counts
pub mod Third
pub mod Dropped
pub mod Touches
pub mod Closing
pub mod Demands
