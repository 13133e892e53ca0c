pub mod FirstPairs
pub mod Keys
pub mod KeysRead
pub mod PairSearches
pub mod PairsRead
pub mod Searches
pub mod Sets
