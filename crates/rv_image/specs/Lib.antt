pub mod ImageFiles
pub mod ImageLaws
