-- What a policy is, and what the four policies mean.
pub mod Meanings
pub mod Names
pub mod Orders
pub mod Policies
pub mod Arranged
pub mod Places
pub mod Naming
pub mod Pigeonhole
