mod Keeping
mod Openings
