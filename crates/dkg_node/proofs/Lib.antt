pub mod Naming
pub mod NodeOpens
pub mod Noding
pub mod Opening
pub mod OwnFaults
pub mod Passing
pub mod Shutting
