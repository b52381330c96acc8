pub mod Piece
pub mod Patches
