mod Lifting
mod Running
mod Until
pub mod Attempts
