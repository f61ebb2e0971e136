-- What a delivery requires and promises.
pub mod UnderwayParts
pub mod Holding
pub mod Handing
pub mod Arriving
pub mod Stops
