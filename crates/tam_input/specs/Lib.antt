pub mod Told
pub mod Endings
pub mod Refusing
pub mod Inputs
