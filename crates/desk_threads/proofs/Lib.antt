mod Joining
mod Lists
mod Ordering
mod Resting
mod SeatSteps
mod Timing
