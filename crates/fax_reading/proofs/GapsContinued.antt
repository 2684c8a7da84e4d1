pub mod ContinuedEols
pub mod SettledGaps
