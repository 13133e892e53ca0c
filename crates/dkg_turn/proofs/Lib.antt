pub mod Calling
pub mod Coming
pub mod Histories
pub mod Keeps
pub mod Parting
pub mod Whole
