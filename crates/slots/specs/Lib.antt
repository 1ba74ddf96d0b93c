-- What slots are and when they meet.
pub mod Jumps
pub mod Ranges
pub mod Slots
