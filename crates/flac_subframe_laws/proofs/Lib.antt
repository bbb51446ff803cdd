mod Samples
mod Predictors
mod Listed
mod Subframes
