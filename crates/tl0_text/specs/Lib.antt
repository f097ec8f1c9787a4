pub mod CodeSayings
pub mod TokensView
pub mod Printing
pub mod Reading
pub mod ReadingExamples
pub mod TextView
pub mod Sound
