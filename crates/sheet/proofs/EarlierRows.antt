-- The period of the last row.
use Rattle.std.proofs.Common.{◌≡◌, ℕ, suc, ◌-◌, ◌<◌, List, [], ◌∷◌, length, get_or, refl, arith}
use Rattle.tasks.specs.declared.task.Task.{Task}
use Rattle.sheet.specs.Reading.{last_period}

abbrev blank : Task
blank = record { id = 0; level = 0; period = 0; deadline = 0; budgets = record { everyday = 0; critical = 0 } }

last_at : (t : Task) (rows : List Task) (k : ℕ) → k ≡ length rows → (get_or (t ∷ rows) k blank).period ≡ last_period (t ∷ rows)
last_at t [] k e = rw e
last_at t (u ∷ rows) k e = rw e (last_at u rows (length rows) refl)

-- the last row has the last period
pub last_period_is : (rows : List Task) → 0 < length rows → (get_or rows (length rows - 1) blank).period ≡ last_period rows
last_period_is [] l = absurd (omega arith)
last_period_is (t ∷ rows) l = last_at t rows (suc (length rows) - 1) (omega arith)
