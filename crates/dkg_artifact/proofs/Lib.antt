pub mod Lacked
pub mod Putting
pub mod ScanLaws
pub mod Standing
pub mod Waiting
