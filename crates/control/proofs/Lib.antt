-- What several proofs about the control share.
pub mod BusyOnes
pub mod Calling
pub mod Carrying
pub mod Changed
pub mod Deciding
pub mod Ending
pub mod Firsts
pub mod Loads
pub mod Performing
pub mod Planned
pub mod Standings
pub mod Writing
