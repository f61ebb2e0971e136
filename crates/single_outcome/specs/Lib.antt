-- A full delivery by the public calls, as steps of a history.
pub mod Delivery
