-- Histories of calls on records and lent memory.
pub mod State
pub mod Steps
pub mod Histories
pub mod Start
pub mod Frame
