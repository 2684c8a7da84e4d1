pub mod Names
pub mod Readings
pub mod Work
