pub mod Allowed
pub mod Asked
pub mod Grammar
pub mod Laws
pub mod Lines
pub mod Positive
pub mod Rows
pub mod Spells
