-- How long the lines are.
pub mod LineBounds
