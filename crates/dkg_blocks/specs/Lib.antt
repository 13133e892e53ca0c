pub mod Applied
pub mod CarriedLogs
