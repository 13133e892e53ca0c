pub mod History
pub mod Known
pub mod Passes
pub mod Refusals
pub mod Replies
pub mod Rules
pub mod Stops
