-- When a row of a plan is due. Modes are numbers: 0 everyday, 1 critical.
use Rattle.std.specs.Prelude.{◌≡◌, ℕ, ◌+◌, ◌*◌}
use Rattle.tasks.specs.Tasks.{Belongs}
use Rattle.planner.specs.Rows.{start}
use Rattle.planner.specs.declared.row.Row.{Row as PlanRow}

-- the instant t lies S + k * T after the opening of the mode, for some k: S is the row's start in the mode, T its period
abbrev pub Quoted : PlanRow → ℕ → ℕ → ℕ → Type 0
Quoted row mode opening t = (k : ℕ) × (t ≡ opening + (start row mode + k * row.task.period))

-- the row is due at the instant t of a mode that opened at this instant
abbrev pub Due : PlanRow → ℕ → ℕ → ℕ → Type 0
Due row mode opening t = Belongs row.task mode × Quoted row mode opening t
