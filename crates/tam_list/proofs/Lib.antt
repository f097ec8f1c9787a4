pub mod CodeSizes
pub mod Appending
pub mod Inside
