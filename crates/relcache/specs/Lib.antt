pub mod Published
pub mod Steps
pub mod Mapping
pub mod Planning
pub mod Fits
pub mod Answer
pub mod Statements
