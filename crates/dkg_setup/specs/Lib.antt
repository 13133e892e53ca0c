pub mod Anchors
pub mod Standings
