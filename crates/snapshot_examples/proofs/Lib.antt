-- The figures of specs/, proved.
pub mod Instances
pub mod Sums
