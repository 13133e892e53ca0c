pub mod Chain
pub mod Made
pub mod Making
