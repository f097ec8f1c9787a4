pub mod Answering
pub mod Lines
pub mod Numbers
pub mod CodeLines
pub mod Programs
