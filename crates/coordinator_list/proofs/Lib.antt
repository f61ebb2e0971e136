-- The laws behind the list call.
pub mod ListLaws
pub mod WriteLaws
pub mod Edges
