-- What a refused call leaves as it was.
pub mod Refused
