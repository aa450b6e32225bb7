pub mod Buffers
pub mod BufferLaws
pub mod Promises
pub mod PromiseLaws
pub mod Walks
pub mod WalkLaws
pub mod NoteLaws
