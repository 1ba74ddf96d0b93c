-- The machine that a control is, what a history of calls tells, and the laws over histories.
pub mod Below
pub mod Plans
pub mod Entries
pub mod History
pub mod Laws
pub mod Machine
pub mod Theorems
