-- Networks that never arose, between arrivals and in mid-delivery (PROOF.md section 8).
pub mod Stages
pub mod Soundness
pub mod Numbers
