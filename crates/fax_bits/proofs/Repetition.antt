pub mod Gathered
pub mod Repeated
