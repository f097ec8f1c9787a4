pub mod Names
pub mod Command
pub mod Options
pub mod Jobs
pub mod Tells
