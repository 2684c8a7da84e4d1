pub mod CutBits
pub mod Names
pub mod RunsWritten
pub mod StoredWords
pub mod WordBytes
pub mod WordTables
pub mod WrittenBits
