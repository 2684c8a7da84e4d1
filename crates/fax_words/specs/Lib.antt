pub mod Chosen
pub mod Writing
