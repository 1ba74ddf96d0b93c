-- A sheet as lines, and the frame on the next line.
use Rattle.std.specs.Prelude.{ℕ, ◌+◌, Bool, cond, not, List, [], ◌∷◌, Some, None, Ok, Err, Option, Result, ◌==◌}
use Rattle.tasks.specs.declared.fault.DigitFault.{DigitFault}
use Rattle.tasks.specs.declared.fault.DigitFault.TheVariants.{Unended}
use Rattle.tasks.specs.declared.fault.FrameFault.{FrameFault}
use Rattle.tasks.specs.declared.fault.FrameFault.TheVariants.{Digits}
use Rattle.frames.specs.Frames.{Told, frame_of}

-- what is left of a sheet: nothing, a last line that is not ended, or a line and what comes after it
pub data Lines : Type 0 where
  no_more : Lines
  not_ended : Lines
  ended : List ℕ → Lines → Lines

-- whether a byte belongs to a line and does not end it
abbrev pub in_line : ℕ → Bool
in_line b = not (b == 10)

-- one more byte at the front of the first line
abbrev pub longer : ℕ → Lines → Lines
longer b no_more = not_ended
longer b not_ended = not_ended
longer b (ended digits rest) = ended (b ∷ digits) rest

-- the lines of some bytes; byte 10 ends a line
abbrev pub lines : List ℕ → Lines
lines [] = no_more
lines (b ∷ bytes) = cond (in_line b) (longer b (lines bytes)) (ended [] (lines bytes))

-- what is left after the next line
abbrev pub after : Lines → Lines
after no_more = no_more
after not_ended = not_ended
after (ended digits rest) = rest

-- how many lines are read after the next one, when n were read before it
abbrev pub counted : ℕ → Lines → ℕ
counted n no_more = n
counted n not_ended = n
counted n (ended digits rest) = n + 1

-- the number and the digits of the next line, when n were read before it
abbrev pub next_line : ℕ → Lines → Result (Option (ℕ × List ℕ)) DigitFault
next_line n no_more = Ok None
next_line n not_ended = Err (Unended (n + 1))
next_line n (ended digits rest) = Ok (Some (n + 1, digits))

-- a frame that is there
abbrev pub there : Result Told FrameFault → Result (Option Told) FrameFault
there (Ok told) = Ok (Some told)
there (Err fault) = Err fault

-- what a line's frame tells, where there is a line
abbrev pub told_on : Result (Option (ℕ × List ℕ)) DigitFault → Result (Option Told) FrameFault
told_on (Err fault) = Err (Digits fault)
told_on (Ok None) = Ok None
told_on (Ok (Some l)) = there (frame_of l.0 l.1)

-- what the next frame tells, when n lines were read before it
abbrev pub next_told : ℕ → Lines → Result (Option Told) FrameFault
next_told n ls = told_on (next_line n ls)
