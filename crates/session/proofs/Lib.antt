pub mod Spools
pub mod Totals
pub mod Kept
pub mod Mappings
pub mod Finals
pub mod Stepped
pub mod Steps
pub mod Items
pub mod Streams
mod Skipping
