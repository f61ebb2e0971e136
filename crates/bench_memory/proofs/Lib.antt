-- The laws of the tests of a whole network's memory.
pub mod SitesLaws
pub mod PartLaws
pub mod ShortLaws
pub mod BenchLaws
