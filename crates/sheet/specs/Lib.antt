-- Lines, the reader, and the text of a sheet.
pub mod Lines
pub mod Walk
pub mod Reading
pub mod Text
pub mod Delivers
