-- All calls of a session one after the other, and that together they write the program's
-- transcript.
pub mod Rooms
pub mod Course
pub mod Ending
pub mod EndingInstances
pub mod Claims
