pub mod Halves
pub mod Orchestrator
pub mod Sources
