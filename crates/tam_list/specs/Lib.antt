pub mod Listings
pub mod Told
