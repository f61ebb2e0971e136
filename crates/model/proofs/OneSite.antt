-- One site: Space-Saving with reports (PROOF.md section 2).
pub mod CounterLaws
pub mod DistinctItems
pub mod SpaceSaving
pub mod Replacement
pub mod Counting
pub mod Reporting
pub mod ArrivalLaws
pub mod SiteInvariant
