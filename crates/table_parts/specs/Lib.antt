pub mod Part
pub mod PartCode
pub mod Kept
pub mod Several
