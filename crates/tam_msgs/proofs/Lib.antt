pub mod OrderPieces
pub mod Taking
