-- What is handed out.
pub mod HandingLaws
