-- The laws that the delivery's functions are proved by.
pub mod OneAnswer
pub mod HoldingLaws
pub mod RestLaws
pub mod GoingLaws
pub mod StepLaws
pub mod DeliverLaws
pub mod ObservedLaws
pub mod SiteLaws
pub mod TakenLaws
pub mod HandLaws
pub mod HandToCoordinator
pub mod HandToSite
pub mod HandSteps
pub mod StopLaws
