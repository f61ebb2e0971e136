-- What the writing parts of saving a bench require.
pub mod Parts
