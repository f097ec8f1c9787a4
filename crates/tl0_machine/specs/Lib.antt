pub mod CodeFits
pub mod ThreadStates
pub mod ThreadEvents
pub mod QuickEvents
