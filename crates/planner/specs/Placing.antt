-- How one task is placed beside the rows placed before it.
use Rattle.std.specs.Prelude.{◌≡◌, ℕ, ◌+◌, ◌<◌, ◌≤◌, List, Some}
use Rattle.std.specs.List.{slice_get}
use Rattle.slots.specs.Slots.{On, Meet}
use Rattle.tasks.specs.Tasks.{Belongs, budget}
use Rattle.tasks.specs.declared.task.Task.{Task}
use Rattle.planner.specs.Rows.{Occupies, no_start, start}
use Rattle.planner.specs.declared.row.Row.{Row}

-- the row runs on controller c in the mode, and some instant is occupied by it and by the task when that starts at s
abbrev pub Blocks : ℕ → ℕ → Task → ℕ → Row → Type 0
Blocks c mode task s row =
    (row.controller ≡ c)
    × Belongs row.task mode
    × Meet (On s (budget task mode) task.period) (Occupies row mode)

-- on controller c in the mode, the task that starts at s ends within its deadline and meets no placed row
abbrev pub Clear : ℕ → ℕ → List Row → Task → ℕ → Type 0
Clear c mode placed task s =
    (s + budget task mode ≤ task.deadline)
    × ((i : ℕ) (row : Row) → slice_get placed i ≡ Some row → Blocks c mode task s row → ⊥)

-- controller c takes the task: each mode of the task has a clear start
abbrev pub Takes : ℕ → List Row → Task → Type 0
Takes c placed task = (mode : ℕ) → Belongs task mode → (s : ℕ) × Clear c mode placed task s

-- the least number with a property
abbrev pub Least : (ℕ → Type 0) → ℕ → Type 0
Least P s = P s × ((j : ℕ) → j < s → P j → ⊥)

-- the controller is the first in the order with a property
abbrev pub FirstIn : List ℕ → (ℕ → Type 0) → ℕ → Type 0
FirstIn order P c =
    (k : ℕ)
    × (slice_get order k ≡ Some c)
    × P c
    × ((j d : ℕ) → j < k → slice_get order j ≡ Some d → P d → ⊥)

-- the row holds the task, on controller c: in each mode of the task the least clear start, and in the others none
pub record PlacedOn (c : ℕ) (placed : List Row) (task : Task) (row : Row) : Type 0 where
  pub holds : row.task ≡ task
  pub there : row.controller ≡ c
  pub starts : (mode : ℕ) → Belongs task mode → Least (Clear c mode placed task) (start row mode)
  pub blank : (mode : ℕ) → task.level < mode → start row mode ≡ no_start

-- the row is how the task is placed: on the first controller in the order that takes it
pub record PlacedAs (order : List ℕ) (placed : List Row) (task : Task) (row : Row) : Type 0 where
  pub first : FirstIn order (λ c. Takes c placed task) row.controller
  pub on : PlacedOn row.controller placed task row
