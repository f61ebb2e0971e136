-- Laws of the line of a reason.
pub mod ReasonLaws
