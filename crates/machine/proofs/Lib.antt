-- Lemmas on the machine, on histories and on the laws.
pub mod Basics
pub mod Plans
pub mod Books
pub mod Turns
pub mod Ticks
pub mod Sound
pub mod Runs
pub mod Unique
pub mod Loading
pub mod Sending
