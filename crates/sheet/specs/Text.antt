-- The text of a sheet, and when m and rows keep every rule.
use Rattle.std.specs.Prelude.{◌≡◌, ℕ, ◌≤◌, ◌↔◌, List, [], ◌∷◌, length, Ok, Result}
use Rattle.std.specs.List.{flat_map, AllByRecursion}
use Rattle.frames.specs.Texts.{line_text}
use Rattle.tasks.specs.declared.task.Task.{Task}
use Rattle.tasks.specs.Counts.{Few}
use Rattle.tasks.specs.Tasks.{InRange}
use Rattle.frames.specs.Frames.{Told, opening, row, close}
use Rattle.tasks.specs.declared.fault.SheetFault.{SheetFault}

-- the frames of a sheet after its opening
abbrev pub rows_and_close : List Task → List Told
rows_and_close [] = close ∷ []
rows_and_close (t ∷ rows) = row t ∷ rows_and_close rows

-- the bytes of a sheet: the opening, the rows in their order, the close
abbrev pub text : ℕ → List Task → List ℕ
text m rows = flat_map line_text (opening m (length rows) ∷ rows_and_close rows)

-- each row stands so to every later row
abbrev pub EachToLater : (Task → Task → Type 0) → List Task → Type 0
EachToLater R [] = Unit {0}
EachToLater R (t ∷ rows) = AllByRecursion (R t) rows × EachToLater R rows

-- two tasks have different ids
abbrev pub Apart : Task → Task → Type 0
Apart a b = a.id ≡ b.id → ⊥

-- the period of a later task is not below that of an earlier one
abbrev pub Rising : Task → Task → Type 0
Rising a b = a.period ≤ b.period

-- the rows keep every rule over rows
pub record RowsValid (rows : List Task) : Type 0 where
  pub ids : AllByRecursion (λ t. t.id ≤ 255) rows
  pub numbers : AllByRecursion InRange rows
  pub apart : EachToLater Apart rows
  pub rising : EachToLater Rising rows

-- m and rows keep every rule of a sheet
pub record Valid (m : ℕ) (rows : List Task) : Type 0 where
  pub controllers : Few m
  pub tasks : length rows ≤ 64
  pub each : RowsValid rows

-- the answer is m and the list keeps these rows exactly when the bytes are the text of m and the rows, these keep every
-- rule, and the list has places for them
abbrev pub TakesExactly : List ℕ → ℕ → Result ℕ SheetFault → List Task → Type 0
TakesExactly bytes places answer kept =
    (m : ℕ) (rows : List Task) →
    ((answer ≡ Ok m) × (kept ≡ rows)) ↔ ((bytes ≡ text m rows) × Valid m rows × (length rows ≤ places))
