pub mod Cuts
pub mod EarlierRows
pub mod Steps
pub mod Rules
pub mod Exact
pub mod Early
