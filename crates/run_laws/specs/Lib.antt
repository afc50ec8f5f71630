pub mod Runs
pub mod Threads
pub mod ThreadedRun
pub mod FirstCause
pub mod Leading
pub mod Turns
pub mod Statements
