-- Mid-delivery, from any sound network (PROOF.md section 8).
pub mod Stages
pub mod AcceptedMessages
pub mod PhaseSteps
pub mod ReportStage
pub mod NarrowedStage
pub mod PollStage
pub mod ProbeStage
pub mod AnnounceStage
pub mod MidDelivery
pub mod SoundStages
pub mod StageFacts
pub mod StageNames
