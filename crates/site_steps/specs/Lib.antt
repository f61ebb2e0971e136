-- What the internal steps of a site require and promise.
pub mod Steps
