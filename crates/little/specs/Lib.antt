pub mod Words
pub mod Width
pub mod Bytes
pub mod Every
