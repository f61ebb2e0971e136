-- The laws of the tests of the desk part of a file.
pub mod DeskLaws
