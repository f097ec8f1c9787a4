pub mod Sayable
pub mod Parts
