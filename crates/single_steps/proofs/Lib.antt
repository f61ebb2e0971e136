-- Laws of a delivery by the public calls, call by call.
pub mod QueueLaws
pub mod StepLaws
pub mod CoordinatorStepLaws
pub mod SiteStepLaws
pub mod DeliverLaws
