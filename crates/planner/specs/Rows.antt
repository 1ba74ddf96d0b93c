-- Rows: tasks with a controller and starts. Modes are numbers.
use Rattle.std.specs.Prelude.{◌≡◌, ℕ, ◌+◌, ◌<◌, ◌≤◌, slice_index_or}
use Rattle.slots.specs.Slots.{On}
use Rattle.tasks.specs.Modes.{by_mode}
use Rattle.tasks.specs.Tasks.{Belongs, InRange, budget}
use Rattle.planner.specs.declared.row.Row.{Row}

-- the start in a mode that the task does not belong to
abbrev pub no_start : ℕ
no_start = 65535

-- the start of a row in a mode
abbrev pub start : Row → ℕ → ℕ
start row mode = slice_index_or (by_mode row.starts) mode no_start

-- what stands in a table where no row is
abbrev pub no_row : Row
no_row = record {
  task = record { id = 0; level = 0; period = 0; deadline = 0; budgets = record { everyday = 0; critical = 0 } };
  controller = 0;
  starts = record { everyday = 0; critical = 0 };
}

-- the row occupies the instant t, counted from the opening of the mode
abbrev pub Occupies : Row → ℕ → ℕ → Type 0
Occupies row mode t = On (start row mode) (budget row.task mode) row.task.period t

-- the row's task is in range, in each of its modes it ends within the deadline, and in the others it has no start
pub record Sound (row : Row) : Type 0 where
  pub range : InRange row.task
  pub within : (mode : ℕ) → Belongs row.task mode → start row mode + budget row.task mode ≤ row.task.deadline
  pub blank : (mode : ℕ) → row.task.level < mode → start row mode ≡ no_start
