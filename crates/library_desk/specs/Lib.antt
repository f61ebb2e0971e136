-- What the calls on the desk promise.
pub mod Desk
