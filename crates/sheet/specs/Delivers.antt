-- What a call that reads a sheet into a list delivers.
use Rattle.std.specs.Prelude.{◌≡◌, ℕ, List, length, Result}
use Rattle.records.specs.declared.Records.{Records}
use Rattle.records.specs.Lists.{lent}
use Rattle.tasks.specs.declared.task.Task.{Task}
use Rattle.tasks.specs.declared.fault.SheetFault.{SheetFault}
use Rattle.sheet.specs.Reading.{read_sheet, places_after, length_after}

-- the answer and the whole list, from the bytes and the list before
pub record Delivered (bytes : List ℕ) (before : Records Task) (answer : Result ℕ SheetFault) (next : Records Task) : Type 0 where
  pub answered : answer ≡ (read_sheet bytes (length (lent before))).answer
  pub places : lent next ≡ places_after (read_sheet bytes (length (lent before))).rows (lent before)
  pub len : next.len ≡ length_after (read_sheet bytes (length (lent before))).rows before.len
  pub lender : next.places.ghost_name ≡ before.places.ghost_name
