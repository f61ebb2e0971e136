-- The laws of an arrival after its turn.
pub mod ArrivalLaws
