pub mod Arguments
pub mod Pictures
pub mod Runs
pub mod Statuses
