pub mod Among
pub mod Numbers
pub mod Trying
mod Turning
mod Making
mod Giving
