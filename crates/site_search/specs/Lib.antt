-- What the scan for the least count promises of two counters.
pub mod Order
