-- The laws of one arrival of the batch call.
pub mod RefusalLaws
pub mod BatchLaws
pub mod TurnLaws
