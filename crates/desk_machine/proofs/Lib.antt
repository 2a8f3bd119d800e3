mod Finding
mod Summing
