-- Lemmas on rows, plans and placing.
pub mod Standing
pub mod Places
pub mod Pushing
pub mod FirstMapped
pub mod Choosing
pub mod Rows
pub mod Unique
pub mod Outcomes
