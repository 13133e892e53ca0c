pub mod Concluded
pub mod Derived
pub mod Including
pub mod InclusionOf
pub mod Looks
pub mod Refusing
pub mod Scanned
