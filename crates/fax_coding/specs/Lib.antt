pub mod Coding
pub mod Shortest
pub mod Ways
