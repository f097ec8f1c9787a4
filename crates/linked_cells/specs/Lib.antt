pub mod Ownership
pub mod Addresses
pub mod Cells
pub mod Lists
pub mod Lines
