mod Loops
mod Names
mod Steps
mod Counts
mod Whole
mod Numbers
mod Rows
