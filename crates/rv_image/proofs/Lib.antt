pub mod WordBytes
pub mod ImageLemmas
