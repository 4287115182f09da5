mod Reading
mod Steps
mod Astray
