-- Frames, their kinds and their text.
pub mod Frames
pub mod Kinds
pub mod Texts
