pub mod BlackPixels
pub mod Guesses
pub mod Outcomes
