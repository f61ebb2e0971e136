-- What the tests of a site's record and memory decide and require, and the records of all sites.
pub mod Ready
pub mod Promises
