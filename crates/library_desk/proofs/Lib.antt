-- Laws of the calls on the desk.
pub mod Announcing
