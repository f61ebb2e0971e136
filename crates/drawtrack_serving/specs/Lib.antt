-- What is handed out.
pub mod Handing
