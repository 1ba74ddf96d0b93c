-- What a bench is, and what the two benches mean.
pub mod Commands
pub mod Registers
pub mod Sets
pub mod Slates
