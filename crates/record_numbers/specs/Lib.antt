-- Records as plain numbers.
pub mod Numbers
