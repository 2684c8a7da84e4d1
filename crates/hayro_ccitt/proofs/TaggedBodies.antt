pub mod BodiesByTests
pub mod LinesEnd
pub mod LinesReached
pub mod RowsPassed
pub mod TagsOfLines
