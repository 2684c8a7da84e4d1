pub mod Directories
pub mod Errors
pub mod Numbers
pub mod Payments
pub mod Pictures
pub mod Texts
pub mod Values
