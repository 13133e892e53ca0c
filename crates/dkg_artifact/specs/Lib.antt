pub mod Ancestries
pub mod Found
pub mod Lacking
pub mod Ranks
pub mod Requested
pub mod Results
pub mod Scans
pub mod Seen
