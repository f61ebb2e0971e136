-- Laws of the calls on sites.
pub mod CallLaws
pub mod Edges
