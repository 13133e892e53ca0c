pub mod WorkedLogs
