-- What a run leaves, and the whole way from tasks to a run of their plan.
pub mod Runs
pub mod Whole
