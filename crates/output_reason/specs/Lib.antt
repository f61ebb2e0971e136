-- The line that says where and why an input is refused.
pub mod Reason
