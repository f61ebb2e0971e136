-- The walks over the counts of messages.
pub mod CountsLaws
pub mod TotalLaws
