mod Relaxing
mod Rounds
mod Stack
