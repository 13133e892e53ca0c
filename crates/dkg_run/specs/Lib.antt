pub mod Again
pub mod Command
pub mod Fresh
pub mod Reports
pub mod Untold
