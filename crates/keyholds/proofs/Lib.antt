pub mod Hashes
mod Ties
mod Counting
mod Overlaps
mod Addressing
mod Listing
mod Longer
mod Seen
mod Answering
mod Taking
pub mod HoldsLemmas
mod Keys
