pub mod Orders
mod Blocks
mod Cuts
mod Escapes
mod Kept
mod Numbers
