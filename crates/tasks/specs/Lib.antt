-- Modes, tasks, counts of controllers, and refusals.
pub mod Modes
pub mod Tasks
pub mod Refusals
pub mod Counts
