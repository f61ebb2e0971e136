-- What starting sites promises.
pub mod Starts
pub mod Edges
