pub mod LineLemmas
pub mod SameBytes
pub mod PlainWords
pub mod WordsCut
