-- The text of a frame, and that a line is a frame exactly when it is the text of one.
use Rattle.std.specs.Prelude.{◌≡◌, ℕ, ◌<◌, ◌↔◌, List, [], ◌∷◌, ◌++◌, Ok, Result}
use Rattle.std.specs.List.{flat_map, AllByRecursion}
use Rattle.digits.specs.Digits.{two_bytes, two_digits}
use Rattle.tasks.specs.declared.fault.FrameFault.{FrameFault}
use Rattle.frames.specs.Frames.{Told, opening, row, close}

-- the bytes of a frame: its kind, then its fields
abbrev pub frame_bytes : Told → List ℕ
frame_bytes (opening m tasks) = 1 ∷ m ∷ tasks ∷ []
frame_bytes (row t) =
    2 ∷ t.id ∷ t.level
    ∷ (two_bytes t.period ++ (two_bytes t.deadline ++ (two_bytes t.budgets.everyday ++ two_bytes t.budgets.critical)))
frame_bytes close = 3 ∷ []

-- the digits of a frame, two to a byte
abbrev pub frame_digits : Told → List ℕ
frame_digits told = flat_map two_digits (frame_bytes told)

-- the line of a frame, with its end
abbrev pub line_text : Told → List ℕ
line_text told = frame_digits told ++ 10 ∷ []

-- every byte of a frame is a byte
abbrev pub Fits : Told → Type 0
Fits told = AllByRecursion (λ b. b < 256) (frame_bytes told)

-- a line is read as a frame exactly when its digits are those of that frame
abbrev pub ReadsExactly : List ℕ → Result Told FrameFault → Type 0
ReadsExactly digits answer = (told : Told) → (answer ≡ Ok told) ↔ ((digits ≡ frame_digits told) × Fits told)
