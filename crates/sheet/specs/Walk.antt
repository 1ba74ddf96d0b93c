-- What a reader has left of the sheet, and what its calls answer, without the references.
use Rattle.std.specs.Prelude.{◌≡◌, ℕ, ◌+◌, List, length, drop, Some, None, Ok, Err, Option, Result}
use Rattle.tasks.specs.declared.fault.DigitFault.{DigitFault}
use Rattle.tasks.specs.declared.fault.FrameFault.{FrameFault}
use Rattle.frames.specs.declared.frame.Line.{Line}
use Rattle.frames.specs.declared.frame.Frame.{Frame}
use Rattle.sheet.specs.declared.reader.Reader.{Reader}
use Rattle.frames.specs.Frames.{Told, told_by}
use Rattle.sheet.specs.Lines.{Lines, no_more, not_ended, ended, lines, after, counted}

-- the lines that a reader has not read yet
abbrev pub left : Reader → Lines
left r = lines (drop r.place r.bytes.now)

-- how many bytes are read after the next line, when so many were read before it
abbrev pub place_after : ℕ → Lines → ℕ
place_after place no_more = place
place_after place not_ended = place
place_after place (ended digits rest) = place + (length digits + 1)

-- a reader before and after it read the next line, if there was one
pub record Moved (before next : Reader) : Type 0 where
  pub sheet : next.bytes ≡ before.bytes
  pub place : next.place ≡ place_after before.place (left before)
  pub line : next.line ≡ counted before.line (left before)
  pub left : left next ≡ after (left before)

-- a line with its number and digits
abbrev pub shown_line : Result (Option Line) DigitFault → Result (Option (ℕ × List ℕ)) DigitFault
shown_line (Err fault) = Err fault
shown_line (Ok None) = Ok None
shown_line (Ok (Some l)) = Ok (Some (l.number, l.digits.now))

-- a frame with what it tells
abbrev pub shown_frame : Result (Option Frame) FrameFault → Result (Option Told) FrameFault
shown_frame (Err fault) = Err fault
shown_frame (Ok None) = Ok None
shown_frame (Ok (Some frame)) = Ok (Some (told_by frame))
