-- What the storing parts of reading a bench require.
pub mod Loading
