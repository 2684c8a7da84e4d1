pub use Rattle.fax_lines.proofs.Work.RoomTaken
pub use Rattle.fax_reading.proofs.Work.ChangesStored
pub use Rattle.fax_reading.proofs.Work.EolsPassed
pub use Rattle.fax_reading.proofs.Work.TurnsPaid
pub use Rattle.fax_reading.proofs.Work.WordsPay
pub use Rattle.fax_rows.proofs.Work.CallsPaid
