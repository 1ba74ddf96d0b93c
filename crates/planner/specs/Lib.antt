-- Rows, plans, and how tasks are placed.
pub mod Rows
pub mod Standing
pub mod Plans
pub mod Placing
pub mod Searching
pub mod Planning
pub mod Outcomes
