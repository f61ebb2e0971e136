-- Laws of a full delivery by the public calls.
pub mod LimitLaws
pub mod FirstSteps
pub mod EndLaws
pub mod RestLaws
pub mod OwnMessages
pub mod PollLaws
pub mod OneStep
pub mod ForgottenSites
pub mod ForgottenLaws
pub mod OutcomeLaws
pub mod PassedLaws
pub mod HeldLaws
pub mod HistoryLaws
pub mod ArrivalLaws
