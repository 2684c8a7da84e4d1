pub mod BitReading
pub mod CodeWords
pub mod ErrorKinds
pub mod Names
pub mod Repetition
