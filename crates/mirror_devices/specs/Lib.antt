pub mod Reached
pub mod Statements
pub mod Updates
