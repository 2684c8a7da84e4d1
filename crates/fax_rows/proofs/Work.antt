pub mod CallsPaid
