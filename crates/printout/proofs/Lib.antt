pub mod Written
pub mod Parts
pub mod Quotes
pub mod ReadBack
