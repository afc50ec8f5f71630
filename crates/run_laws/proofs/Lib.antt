mod Begun
mod WorldAt
mod Telling
mod Alone
mod Reaching
mod Running
mod Ways
mod Clear
pub mod Threading
mod Unthreaded
mod FirstCause
mod NoWorkers
mod WithoutThreads
pub mod Closing
mod Noted
pub mod Books
pub mod Steps
pub mod Moments
