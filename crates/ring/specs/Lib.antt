pub mod Ends
pub mod Flow
pub mod Steps
pub mod Seat
pub mod SenderKeeps
pub mod TakerKeeps
pub mod EndsKeep
pub mod Lends
