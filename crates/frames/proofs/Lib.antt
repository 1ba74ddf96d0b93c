pub mod KindLengths
pub mod FrameTexts
