-- Lemmas on benches.
pub mod BusySets
pub mod Bytes
pub mod Made
pub mod Released
pub mod Commands
