-- The kinds of frames, by number: 1 opens, 2 is a task, 3 closes.
use Rattle.std.specs.Prelude.{◌≡◌, ℕ, Ok, Err, Result}
use Rattle.frames.specs.declared.kind.Kind.{Kind}
use Rattle.frames.specs.declared.kind.Kind.TheVariants.{Opening, Row, Close}
use Rattle.frames.specs.declared.kind.UnknownKind.{UnknownKind}

-- the first byte of a frame of this kind
abbrev pub kind_number : Kind → ℕ
kind_number Opening = 1
kind_number Row = 2
kind_number Close = 3

-- the kind with that number, or none where no kind has it
abbrev pub Decodes : ℕ → Result Kind UnknownKind → Type 0
Decodes byte (Ok kind) = byte ≡ kind_number kind
Decodes byte (Err _) = (kind : Kind) → byte ≡ kind_number kind → ⊥
