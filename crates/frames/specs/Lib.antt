pub mod Wire
pub mod Stream
pub mod Reads
pub mod Steps
pub mod Kept
pub mod Device
pub mod Status
