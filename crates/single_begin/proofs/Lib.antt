-- The laws of the first call of a delivery.
pub mod BeginLaws
