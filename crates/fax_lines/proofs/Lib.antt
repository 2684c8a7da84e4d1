pub mod CodeWords
pub mod DrawingLines
pub mod Names
pub mod Work
