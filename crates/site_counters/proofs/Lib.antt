-- Laws of the counters in a site's memory.
pub mod CountersFrom
pub mod CounterMemory
