-- The laws behind the calls on the coordinator.
pub mod CallLaws
pub mod Edges
