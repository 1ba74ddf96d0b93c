-- Tasks and rows as the examples write them.
use Rattle.std.specs.Prelude.{ℕ, List, [], ◌∷◌, slice_index}
use Rattle.tasks.specs.declared.task.Task.{Task}
use Rattle.planner.specs.Rows.{no_start}
use Rattle.planner.specs.declared.row.Row.{Row}

-- an everyday task
abbrev pub due_by : (id period deadline budget : ℕ) → Task
due_by id period deadline budget = record { id = id; level = 0; period = period; deadline = deadline; budgets = record { everyday = budget; critical = 0 } }

-- an everyday task that may end with its period
abbrev pub everyday : (id period budget : ℕ) → Task
everyday id period budget = due_by id period period budget

-- a critical task, with its two budgets
abbrev pub critical : (id period deadline : ℕ) → List ℕ → Task
critical id period deadline budgets = record { id = id; level = 1; period = period; deadline = deadline; budgets = record { everyday = slice_index budgets 0; critical = slice_index budgets 1 } }

-- a task on a controller, with its starts
abbrev pub row : Task → ℕ → List ℕ → Row
row task controller starts = record { task = task; controller = controller; starts = record { everyday = slice_index starts 0; critical = slice_index starts 1 } }

-- an everyday task on the only controller there is, with its start
abbrev pub alone : Task → ℕ → Row
alone task start = row task 0 (start ∷ no_start ∷ [])
