-- The laws of the tests of a whole network.
pub mod RecordsLaws
pub mod NetworkLaws
pub mod SoundLaws
