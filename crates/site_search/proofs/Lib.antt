-- The loops over a site's counters.
pub mod Search
