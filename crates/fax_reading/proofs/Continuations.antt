pub mod LinesContinued
pub mod LinesGoOn
pub mod ShortLines
pub mod StrictLines
