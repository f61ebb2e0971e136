-- What the functions on counters in lent memory promise.
pub mod Stored
