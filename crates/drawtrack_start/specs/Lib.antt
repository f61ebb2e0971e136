-- The program's limits, and what a start that is judged by them answers.
pub mod Limits
pub mod Start
