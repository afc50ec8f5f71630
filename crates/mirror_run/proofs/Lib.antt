mod OneItem
mod Keys
