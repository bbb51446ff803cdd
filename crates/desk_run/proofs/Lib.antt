mod Lists
mod FirstSeats
mod Closing
mod Goings
