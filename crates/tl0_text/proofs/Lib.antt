mod Lines
mod Cutting
mod Forms
mod Spelling
mod Comes
mod Limits
mod Sayings
mod TextsRead
mod Leading
mod TextsBack
pub mod ProgramsBack
mod Looping
mod Printed
