pub mod Pictures
pub mod Turned
