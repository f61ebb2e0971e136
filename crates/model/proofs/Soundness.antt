-- Networks that never arose: what the test of refusal 11 means, that a site by itself keeps it, and
-- what never falls (PROOF.md section 8; the rest is in crate mid_delivery).
pub mod NeverFalls
pub mod SoundCounters
pub mod SoundSites
pub mod NeverFewer
pub mod ConsistentSites
pub mod ConsistentCoordinator
pub mod ConsistentNetwork
