mod Appending
mod Following
