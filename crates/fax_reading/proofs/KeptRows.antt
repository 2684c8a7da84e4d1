pub mod EqualFronts
pub mod RowsBeforeDamage
pub mod RowsAfterDamage
pub mod StepsReported
pub mod TurnsLeave
