pub mod Words
pub mod Walks
pub mod Entering
pub mod KeyLaws
pub mod TileKeyLaws
pub mod Shelving
