-- Refusal chains, settings and memory that pass, and the threshold (PROOF.md section 1).
pub mod RefusalLaws
pub mod SettingsLaws
pub mod TestedMemory
pub mod Threshold
