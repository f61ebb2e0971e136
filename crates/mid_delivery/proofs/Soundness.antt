-- A sound network stays sound (PROOF.md section 8).
pub mod CoordinatorSound
pub mod Together
pub mod SoundTheorem
