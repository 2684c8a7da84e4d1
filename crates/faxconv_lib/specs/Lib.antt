pub mod Json
pub mod Pages
pub mod RawData
pub mod Reports
pub mod Statuses
pub mod Visible
