-- A delivery by the public calls, call by call.
pub mod Progress
pub mod Steps
