mod Deeds
mod Delivering
mod Matching
mod Ranking
mod Told
mod Weights
