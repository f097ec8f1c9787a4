mod MemoryWalks
mod Blocks
mod Sharing
mod CellLemmas
pub mod ListLemmas
pub mod LineLemmas
