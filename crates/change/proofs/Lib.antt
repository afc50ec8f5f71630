pub mod Restoring
pub mod Outcomes
pub mod Clashes
pub mod Wiping
pub mod Altering
pub mod Numbered
pub mod PatchedColumns
pub mod Searching
pub mod KeptRows
mod LayingUnder
