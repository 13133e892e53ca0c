pub mod Cuts
pub mod Keys
pub mod Made
pub mod Secrets
