pub mod Deals
pub mod Epochs
pub mod Firsts
pub mod Holders
pub mod Plans
pub mod Ranges
