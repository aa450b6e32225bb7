pub mod Adding
pub mod Gathering
pub mod Codes
pub mod Looking
pub mod Walking
pub mod Writing
pub mod Answering
