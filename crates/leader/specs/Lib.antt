pub mod Onlookers
pub mod Threads
pub mod Decided
pub mod Ending
pub mod WithWorkers
pub mod Watching
