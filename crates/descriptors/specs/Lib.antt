-- What reading and writing descriptors promises: counts, and no byte.
pub mod Descriptors
