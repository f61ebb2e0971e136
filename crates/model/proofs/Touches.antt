-- Class 0 is no draw (PROOF.md section 13).
pub mod DrawLaws
pub mod DrawLists
pub mod BeforeDraws
pub mod Instances
