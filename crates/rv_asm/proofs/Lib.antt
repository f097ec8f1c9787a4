pub mod Called
pub mod Cutting
pub mod Forms
pub mod Labelled
pub mod Looping
pub mod Soundness
pub mod Assembled
pub mod Differ
pub mod Rows
pub mod Numbers
pub mod LinesRead
pub mod LinesBack
pub mod TextsRead
pub mod ImagesRead
pub mod Worded
pub mod PlainTexts
pub mod OperandsSaid
pub mod VerbsCalled
pub mod Spoken
pub mod TokenBytes
pub mod LinesCut
pub mod PrintedLines
pub mod PrintedReads
pub mod PrintedLength
mod CutTokens
mod FirstTokens
