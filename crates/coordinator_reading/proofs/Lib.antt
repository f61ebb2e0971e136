-- The laws behind the margin call and the quantile call.
pub mod Signed
pub mod ReadLaws
pub mod Edges
