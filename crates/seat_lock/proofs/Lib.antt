pub mod Authors
pub mod Claims
pub mod Ends
pub mod Logs
pub mod Passages
pub mod Seats
pub mod Unions
