pub mod Deeds
pub mod Fuses
pub mod Keys
pub mod OnRecord
pub mod Registering
pub mod Signers
