pub mod ImageExamples
pub mod RunExamples
pub mod EveryExamples
