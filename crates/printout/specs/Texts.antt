-- The text of printed lines: a refusal, and the appendix of a plan.
use Rattle.std.specs.Prelude.{◌≡◌, ℕ, ◌%◌, ◌<◌, ◌≤◌, List, [], ◌∷◌, ◌++◌, map, length, drop, Ok, Err, Result}
use Rattle.std.specs.List.{flat_map}
use Rattle.digits.specs.Digits.{byte_at, two_bytes, two_digits, word_at}
use Rattle.planner.specs.declared.row.Row.{Row}
use Rattle.tasks.specs.declared.fault.AppendixFault.{AppendixFault}
use Rattle.tasks.specs.declared.fault.AppendixFault.TheVariants.{Places}

-- the line of some bytes: two digits to a byte, and the end of the line
abbrev pub line_of : List ℕ → List ℕ
line_of bytes = flat_map two_digits bytes ++ 10 ∷ []

-- the line of a row: kind 5, id, controller, everyday start and critical start
abbrev pub row_text : Row → List ℕ
row_text row = line_of (5 ∷ row.task.id ∷ row.controller ∷ (two_bytes row.starts.everyday ++ two_bytes row.starts.critical))

-- the appendix of some rows on m controllers: the opening of kind 4, a line for each row, the close of kind 6
abbrev pub appendix_text : ℕ → List Row → List ℕ
appendix_text m rows = line_of (4 ∷ m ∷ length rows ∷ []) ++ (flat_map row_text rows ++ line_of (6 ∷ []))

-- what the appendix quotes of a row
pub record Quote : Type 0 where
  pub id : ℕ
  pub controller : ℕ
  pub everyday : ℕ
  pub critical : ℕ

-- the row's id, controller and starts
abbrev pub quote_of : Row → Quote
quote_of row = record { id = row.task.id; controller = row.controller; everyday = row.starts.everyday; critical = row.starts.critical }

-- appendices with the same text quote the same: as many controllers, and the same of each row
abbrev pub TextsTellQuotes : Type 0
TextsTellQuotes =
    (m n : ℕ) (rows others : List Row) → appendix_text m rows ≡ appendix_text n others → (m ≡ n) × (map quote_of rows ≡ map quote_of others)

-- what writing an appendix answers, and leaves in the bytes: refused exactly where they are too few, and then none is written
abbrev pub Wrote : List ℕ → List ℕ → Result ℕ AppendixFault → List ℕ → Type 0
Wrote text before (Ok n) next = (length text ≤ length before) × (n ≡ length text) × (next ≡ text ++ drop (length text) before)
Wrote text before (Err fault) next = (length before < length text) × (fault ≡ Places) × (next ≡ before)

-- the line of a refusal: kind 7, number, layer, and the place as two bytes, which hold it below 65536
abbrev pub refusal_text : ℕ → ℕ → ℕ → List ℕ
refusal_text number layer place = line_of (7 ∷ number ∷ layer ∷ two_bytes (place % 65536))

-- the digits tell the number, the layer and, below 65536, the place
pub record ReadsBack (number layer place : ℕ) (digits : List ℕ) : Type 0 where
  pub same_number : byte_at digits 1 ≡ number
  pub same_layer : byte_at digits 2 ≡ layer
  pub same_place : place < 65536 → word_at digits 3 ≡ place
