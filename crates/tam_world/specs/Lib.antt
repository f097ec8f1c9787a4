pub mod Worlds
pub mod Takers
pub mod TakerExamples
pub mod Sought
pub mod Needs
pub mod Tables
pub mod Kept
pub mod Effects
