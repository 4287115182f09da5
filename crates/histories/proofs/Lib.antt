mod Belonging
mod Keeping
mod Trusting
