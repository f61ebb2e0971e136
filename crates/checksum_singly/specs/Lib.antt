-- What the calls of tests and benchmarks promise.
pub mod Trials
