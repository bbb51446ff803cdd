mod Counts
mod Bags
mod Walks
mod Ledgers
