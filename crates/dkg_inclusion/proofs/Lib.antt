pub mod Advancing
pub mod Asked
pub mod Asking
pub mod Requesting
pub mod Scans
pub mod Staying
