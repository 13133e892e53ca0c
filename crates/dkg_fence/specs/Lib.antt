pub mod Fence
pub mod Readiness
