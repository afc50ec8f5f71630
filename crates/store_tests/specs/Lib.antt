pub mod Scenes
pub mod Waits
pub mod WaitsLemmas
pub mod Names
