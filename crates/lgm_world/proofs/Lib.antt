mod Worlds
mod Steps
mod Runs
