-- What a start that is not refused leaves.
pub mod StartLaws
