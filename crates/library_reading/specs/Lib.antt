-- What the calls that read the desk promise.
pub mod Reading
