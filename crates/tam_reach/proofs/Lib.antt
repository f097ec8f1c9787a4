pub mod Spread
pub mod PlacesThat
pub mod ExampleBlock
