-- Laws of the loops over the rows of sites.
pub mod Records
