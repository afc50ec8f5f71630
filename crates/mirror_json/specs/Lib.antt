pub mod Followed
pub mod Lines
