-- The log, and what sending asks and promises.
pub mod Log
pub mod Sending
