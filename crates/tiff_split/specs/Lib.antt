pub mod Pages
pub mod Reads
