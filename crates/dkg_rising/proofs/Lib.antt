pub mod Finding
pub mod Indexes
pub mod Views
