pub mod Rows
pub mod ClassNumbers
mod EdgeSteps
mod FiringSteps
pub mod Directly
