-- The laws of a message at a site.
pub mod ReceiveLaws
