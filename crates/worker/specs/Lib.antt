pub mod Working
pub mod WorkingLemmas
pub mod Outbox
