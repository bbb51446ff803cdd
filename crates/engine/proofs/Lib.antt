mod Cases
mod Showings
