-- Draws that a deck has forgotten: where they went, and the instances of request N1.
pub mod Departures
pub mod DroppedInstances
