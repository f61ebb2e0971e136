-- What the first call of a delivery requires and promises.
pub mod Arriving
