-- What several proofs about runs share.
pub mod Runs
pub mod Ticking
