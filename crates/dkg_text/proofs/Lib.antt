pub mod Counted
pub mod Hex
pub mod Kept
