pub mod Encoded
pub mod PackedTogether
pub mod PointersHeld
pub use Rattle.c_rows.proofs.PackedMemory
pub use Rattle.c_rows.proofs.Reporting
pub use Rattle.c_rows.proofs.SpreadRows
pub use Rattle.c_rows.proofs.StandingRows
pub use Rattle.c_rows.proofs.WhiteRows
