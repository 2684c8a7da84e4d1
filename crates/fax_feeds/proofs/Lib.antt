pub mod DrawingLines
pub mod Names
pub mod Readings
