-- How large numbers grow, from any sound network (PROOF.md section 8).
pub mod NumberGrowth
pub mod NumberBounds
pub mod NumberTheorem
