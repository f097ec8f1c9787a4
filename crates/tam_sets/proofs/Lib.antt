pub mod PlacesWhere
pub mod SetBits
