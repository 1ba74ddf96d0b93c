-- Reading a sheet: the opening, the rows, the close, and nothing more. The first rule that a line breaks decides.
use Rattle.std.specs.Prelude.{ℕ, zero, suc, ◌+◌, ◌≤◌, Bool, cond, ◌&&◌, List, [], ◌∷◌, ◌++◌, length, drop, Some, None, Ok, Err, Option, Result, ◌==◌, nat_le, nat_lt}
use Rattle.std.specs.List.{list_any}
use Rattle.tasks.specs.declared.task.Task.{Task}
use Rattle.tasks.specs.declared.fault.FrameFault.{FrameFault}
use Rattle.tasks.specs.declared.fault.SheetFault.{SheetFault}
use Rattle.tasks.specs.declared.fault.SheetFault.TheVariants.{Frame, OutOfPlace, Counts, Places, Range, IdUsed, PeriodFalls}
use Rattle.tasks.specs.Refusals.{sheet_refusal}
use Rattle.tasks.specs.Tasks.{in_range}
use Rattle.frames.specs.Frames.{Told, opening, row, close}
use Rattle.sheet.specs.Lines.{Lines, lines, after, next_told}

-- whether m controllers and a number of tasks are allowed
abbrev pub counts_in_range : ℕ → ℕ → Bool
counts_in_range m tasks = (nat_le 1 m && nat_le m 8) && nat_le tasks 64

-- whether some row has an id
abbrev pub used : ℕ → List Task → Bool
used id = list_any (λ t. t.id == id)

-- the period of the last row, and 0 before the first
abbrev pub last_period : List Task → ℕ
last_period [] = 0
last_period (t ∷ []) = t.period
last_period (t ∷ u ∷ rows) = last_period (u ∷ rows)

-- a task after some rows: its numbers, its id, its period
abbrev pub row_checked : ℕ → List Task → Task → Result Task SheetFault
row_checked line rows t =
    cond (in_range t)
    (cond (used t.id rows) (Err (IdUsed line))
    (cond (nat_lt t.period (last_period rows)) (Err (PeriodFalls line))
    (Ok t)))
    (Err (Range line))

-- m and the number of tasks, from what the first line tells
abbrev pub opening_of : (places line : ℕ) → Result (Option Told) FrameFault → Result (ℕ × ℕ) SheetFault
opening_of places line (Err fault) = Err (Frame fault)
opening_of places line (Ok None) = Err (OutOfPlace line)
opening_of places line (Ok (Some (opening m tasks))) =
    cond (counts_in_range m tasks) (cond (nat_lt places tasks) (Err (Places line)) (Ok (m, tasks))) (Err (Counts line))
opening_of places line (Ok (Some (row t))) = Err (OutOfPlace line)
opening_of places line (Ok (Some close)) = Err (OutOfPlace line)

-- the next row, from what the next line tells
abbrev pub row_of : (line : ℕ) → List Task → Result (Option Told) FrameFault → Result Task SheetFault
row_of line rows (Err fault) = Err (Frame fault)
row_of line rows (Ok None) = Err (OutOfPlace line)
row_of line rows (Ok (Some (opening m tasks))) = Err (OutOfPlace line)
row_of line rows (Ok (Some (row t))) = row_checked line rows t
row_of line rows (Ok (Some close)) = Err (OutOfPlace line)

-- the close, from what the next line tells
abbrev pub close_of : (line : ℕ) → Result (Option Told) FrameFault → Result (Unit {0}) SheetFault
close_of line (Err fault) = Err (Frame fault)
close_of line (Ok None) = Err (OutOfPlace line)
close_of line (Ok (Some (opening m tasks))) = Err (OutOfPlace line)
close_of line (Ok (Some (row t))) = Err (OutOfPlace line)
close_of line (Ok (Some close)) = Ok tt

-- nothing more, from what the next line tells
abbrev pub end_of : (line : ℕ) → Result (Option Told) FrameFault → Result (Unit {0}) SheetFault
end_of line (Err fault) = Err (Frame fault)
end_of line (Ok None) = Ok tt
end_of line (Ok (Some told)) = Err (OutOfPlace line)

-- what is read of a sheet: the answer, and the rows that were written; none where the list was not begun
pub record Reading : Type 0 where
  pub answer : Result ℕ SheetFault
  pub rows : Option (List Task)

-- a step that is refused ends the reading
abbrev pub unless_refused : {X : Type 0} → Result X SheetFault → Option (List Task) → (X → Reading) → Reading
unless_refused (Err fault) rows next = record { answer = Err fault; rows = rows }
unless_refused (Ok x) rows next = next x

-- reads the rows still to come, the close and the end, after n lines
abbrev pub from_rows : (m left n : ℕ) → Lines → List Task → Reading
from_rows m zero n ls rows =
    unless_refused (close_of (n + 1) (next_told n ls)) (Some rows) (λ _.
    unless_refused (end_of (n + 2) (next_told (n + 1) (after ls))) (Some rows) (λ _.
    record { answer = Ok m; rows = Some rows }))
from_rows m (suc left) n ls rows =
    unless_refused (row_of (n + 1) rows (next_told n ls)) (Some rows) (λ t.
    from_rows m left (n + 1) (after ls) (rows ++ t ∷ []))

-- reads a sheet into a list that has so many places
abbrev pub read_sheet : List ℕ → ℕ → Reading
read_sheet bytes places =
    unless_refused (opening_of places 1 (next_told 0 (lines bytes))) None (λ counts.
    from_rows counts.0 counts.1 1 (after (lines bytes)) [])

-- the places of a list after the reading: the rows from the first place on, the other places as they were
abbrev pub places_after : Option (List Task) → List Task → List Task
places_after None places = places
places_after (Some rows) places = rows ++ drop (length rows) places

-- how many records the list holds after the reading
abbrev pub length_after : Option (List Task) → ℕ → ℕ
length_after None len = len
length_after (Some rows) len = length rows

-- a refusal is placed on one of the first 67 lines: the opening, 64 rows, the close and one more
abbrev pub EarlyLine : Result ℕ SheetFault → Type 0
EarlyLine (Ok m) = Unit {0}
EarlyLine (Err fault) = (sheet_refusal fault).place ≤ 67
