mod OutboxLists
mod Refusals
mod Trying
