-- Laws of starting sites.
pub mod StartLaws
pub mod StartTogether
pub mod Edges
