pub mod Alike
pub mod OneQuote
pub mod Stages
