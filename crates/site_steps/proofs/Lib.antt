-- Laws of the internal steps of a site.
pub mod ObserveMemory
pub mod StoreLaws
