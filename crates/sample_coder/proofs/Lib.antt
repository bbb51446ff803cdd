mod Answered
mod Coded
mod Served
