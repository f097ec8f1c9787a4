pub mod Counting
pub mod Starting
pub mod Saying
pub mod Naming
pub mod Widest
pub mod Pushing
