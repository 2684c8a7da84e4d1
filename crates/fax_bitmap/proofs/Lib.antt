pub mod BlackRuns
pub mod Names
pub mod PaintedRows
pub mod PaintedWords
pub mod ScannedRows
pub mod ScannedWords
pub mod TurnedWords
pub mod WhiteRowLines
