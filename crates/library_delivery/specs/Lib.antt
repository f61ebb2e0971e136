-- What a draw with full delivery promises.
pub mod Delivery
