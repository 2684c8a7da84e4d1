pub mod Payments
pub mod Tokens
