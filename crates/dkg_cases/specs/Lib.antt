pub mod Cases
pub mod Counts
