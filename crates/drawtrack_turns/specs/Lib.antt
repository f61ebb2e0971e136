-- What the loop over a session's calls promises.
pub mod Serving
