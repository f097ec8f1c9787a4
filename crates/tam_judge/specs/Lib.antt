pub mod Machines
pub mod ClassSteps
pub mod CheckedEvents
