pub mod States
mod Begun
pub mod Taking
mod Ending
pub mod Handling
pub mod Running
mod Reading
mod Leaving
pub mod Admitted
mod ReportLoops
