pub mod Reads
pub mod Statements
pub mod ReadLemmas
pub mod SightCode
