pub mod Fronts
pub mod Streams
pub mod Handed
pub mod Taking
pub mod Sent
pub mod Spelled
pub mod Endings
