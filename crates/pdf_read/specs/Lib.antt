pub mod Errors
pub mod Payments
