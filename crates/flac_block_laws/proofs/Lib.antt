mod Lengths
mod Restored
mod Written
