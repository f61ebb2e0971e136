-- What the run in memory promises to C.
pub mod Memory
