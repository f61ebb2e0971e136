-- The laws behind the steps: accepted messages, and why sums fit.
pub mod Accepted
pub mod StepLaws
pub mod Receives
