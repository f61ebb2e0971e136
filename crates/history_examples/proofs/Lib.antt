-- The histories of specs/, each of them proved to be one.
pub mod Example
pub mod ExampleHistory
pub mod OneBatch
pub mod FirmInstances
pub mod DroppedHistory
