-- The laws behind the tests: walks over numbers, and what consistency is worth.
pub mod NumberLaws
pub mod ConsistencyLaws
pub mod ReadyLaws
