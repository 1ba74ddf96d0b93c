-- The worked examples, and what holds of them.
pub mod Rows
pub mod Trials
