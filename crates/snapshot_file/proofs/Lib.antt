-- Why a bench that is saved and read is the same, and a file that is read and saved.
pub mod LayoutLaws
pub mod FitLaws
pub mod FrontLaws
pub mod TrailerLaws
pub mod SavedLaws
pub mod ReadLaws
pub mod Theorem
