-- The theorems over the model's definitions.
pub mod Thresholds
pub mod OneSite
pub mod BetweenArrivals
pub mod Deliveries
pub mod MessageCount
pub mod Runs
pub mod Soundness
pub mod Touches
pub mod Worklists
pub mod Instances
pub mod Edges
