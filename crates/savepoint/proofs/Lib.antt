pub mod Firsts
pub mod Indexed
pub mod Cutting
pub mod Marked
pub mod Adopting
