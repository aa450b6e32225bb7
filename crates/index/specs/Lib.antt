pub mod Chains
pub mod ChainLaws
pub mod Work
pub mod WorkLaws
pub mod Hashes
pub mod Keys
pub mod TileKeys
