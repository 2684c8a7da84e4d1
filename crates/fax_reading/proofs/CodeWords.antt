pub mod WordsFound
