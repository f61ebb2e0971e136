-- What the parts of an arrival after its turn require and promise.
pub mod Counting
