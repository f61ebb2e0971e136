-- The network between arrivals: estimates, list and class (PROOF.md section 3).
pub mod HeavyHitters
pub mod SitesInvariant
pub mod QuantileLaws
pub mod ReportLaws
pub mod NetworkInvariant
pub mod NetworkArrival
pub mod NetworkClose
pub mod EstimateBounds
pub mod QuantileBounds
pub mod ListLaws
pub mod ListSize
