-- The sum of the counts of messages, as code has it.
pub mod Totals
