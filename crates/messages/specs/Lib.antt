pub mod Field
pub mod Format
pub mod Letters
pub mod Messages
pub mod Reading
pub mod Writing
