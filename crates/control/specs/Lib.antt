-- What a control keeps, as a state of the machine.
pub mod Tables
pub mod States
pub mod Turns
pub mod Calls
