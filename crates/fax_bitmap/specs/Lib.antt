pub mod Packed
pub mod Painting
pub mod Scanning
