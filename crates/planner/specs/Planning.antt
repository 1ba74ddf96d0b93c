-- How tasks are placed one after the other, by a policy that is told of each row.
use Rattle.std.specs.Prelude.{◌≡◌, ℕ, ◌<◌, List, [], ◌∷◌, length, take, Some, Ok, Err, Result}
use Rattle.std.specs.List.{slice_get}
use Rattle.policies.specs.Policies.{Means}
use Rattle.tasks.specs.declared.fault.PlanFault.{PlanFault}
use Rattle.tasks.specs.declared.fault.PlanFault.TheVariants.{NoController}
use Rattle.tasks.specs.declared.task.Task.{Task}
use Rattle.planner.specs.Placing.{PlacedAs, Takes}
use Rattle.planner.specs.declared.row.Row.{Row}

-- what a policy is after it is told of rows, the first of them first
abbrev pub told_of : {P : Type 0} → Means P → P → List Row → P
told_of means p [] = p
told_of means p (row ∷ rows) = told_of means (means.told p row.task.level row.controller) rows

-- all tasks are placed one after the other, as these rows: each beside those before it, by the policy as it then stands,
-- told of those before it
pub record Placed {P : Type 0} (means : Means P) (p : P) (tasks : List Task) (rows : List Row) : Type 0 where
  pub long : length rows ≡ length tasks
  pub each
      : (i : ℕ) (task : Task) (row : Row)
      → slice_get tasks i ≡ Some task
      → slice_get rows i ≡ Some row
      → PlacedAs (means.order (told_of means p (take i rows)) task.level) (take i rows) task row

-- no controller below m takes task i after the tasks before it are placed as these rows
pub record StuckAt {P : Type 0} (means : Means P) (m : ℕ) (p : P) (tasks : List Task) (i : ℕ) (rows : List Row) : Type 0 where
  pub before : Placed means p (take i tasks) rows
  pub task : Task
  pub here : slice_get tasks i ≡ Some task
  pub none : (c : ℕ) → c < m → Takes c rows task → ⊥

-- what placing one task after the other answers, and leaves: all are placed, or it is stuck at the row answered. The table
-- then begins with the rows placed, and the policy p' was told of these.
abbrev pub PlacesAll : {P : Type 0} → Means P → P → List Task → Result (Unit {0}) PlanFault → List Row → P → Type 0
PlacesAll means p tasks (Ok _) table p' =
    Placed means p tasks (take (length tasks) table)
    × (p' ≡ told_of means p (take (length tasks) table))
PlacesAll means p tasks (Err (NoController i)) table p' =
    StuckAt means (means.count p) p tasks i (take i table)
    × (p' ≡ told_of means p (take i table))
PlacesAll means p tasks (Err _) table p' = ⊥
