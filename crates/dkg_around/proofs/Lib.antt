pub mod Entering
pub mod Finding
pub mod Halves
pub mod LinesFound
pub mod Sourced
pub mod Stepping
