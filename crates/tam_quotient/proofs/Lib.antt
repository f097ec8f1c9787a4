pub mod Places
pub mod Spreading
pub mod Thirds
pub mod Joining
pub mod Deciding
pub mod Tabling
pub mod Surroundings
pub mod Alone
