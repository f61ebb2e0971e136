-- What the run promises of its answer.
pub mod Running
