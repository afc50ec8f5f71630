mod Scenes
mod Names
