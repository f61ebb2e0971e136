-- Laws of a session, and that its calls together write the program's transcript.
pub mod StateLaws
pub mod RefusalLaws
pub mod BatchLaws
pub mod DrawLaws
pub mod ResultLaws
pub mod LineRightLaws
pub mod BegunLaws
pub mod Standing
pub mod EndingLaws
pub mod EndingInstances
pub mod CourseLaws
pub mod KeptLaws
pub mod Theorem
