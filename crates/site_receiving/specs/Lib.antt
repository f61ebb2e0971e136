-- What the step of a site on a message promises.
pub mod Receiving
