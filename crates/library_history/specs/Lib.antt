-- The library's calls as a history.
pub mod Bench
pub mod Calls
pub mod Used
pub mod Reading
pub mod Claims
pub mod Example
