-- Laws of the log and of messages that go out.
pub mod LogLaws
