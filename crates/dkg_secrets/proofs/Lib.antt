pub mod Asked
pub mod Cuts
pub mod Map
pub mod Newest
pub mod Ranges
pub mod Tried
