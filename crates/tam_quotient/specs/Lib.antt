pub mod Quotients
pub mod Joins
pub mod Spreads
pub mod Tables
