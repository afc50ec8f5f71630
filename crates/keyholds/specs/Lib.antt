pub mod Holds
pub mod Counts
pub mod Addresses
pub mod Lists
pub mod Statements
pub mod Hashed
