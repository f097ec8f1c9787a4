pub mod BlockLists
pub mod PrintedLines
