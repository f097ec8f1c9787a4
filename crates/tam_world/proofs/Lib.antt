mod Putting
pub mod FirstOf
mod TableLemmas
mod TableLists
mod Needed
pub mod Kept
mod Unfed
mod Arguments
