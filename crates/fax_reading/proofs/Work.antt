pub mod ChangesStored
pub mod EolsPassed
pub mod TurnsPaid
pub mod WordsPay
