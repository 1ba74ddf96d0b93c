-- Lemmas on divisors, remainders and meeting.
pub mod Bezout
pub mod Jumping
pub mod Remainders
pub mod Rule
