-- Delivery in closed form, and the halving of the interval (PROOF.md sections 4 and 5).
pub mod Halving
pub mod DeliverySteps
pub mod DeliveryMessages
pub mod DeliveryLoops
pub mod DeliveryHalvings
pub mod DeliveryClose
pub mod ArrivalParts
pub mod AfterArrival
pub mod ClosedSites
pub mod DeliveryTheorem
