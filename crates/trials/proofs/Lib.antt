-- What the proof of the examples rests on.
pub mod ByInstants
pub mod Built
pub mod Held
pub mod Ticks
