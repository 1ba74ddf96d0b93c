-- What the searches for a start, for a controller and for a task out of range answer.
use Rattle.std.specs.Prelude.{◌≡◌, ℕ, ◌+◌, ◌<◌, ◌≤◌, List, Some, None, Option, slice_index}
use Rattle.std.specs.List.{slice_get}
use Rattle.std.specs.Int.{IsGcd}
use Rattle.tasks.specs.Tasks.{InRange, budget}
use Rattle.tasks.specs.declared.task.Task.{Task}
use Rattle.planner.specs.Placing.{Blocks, Least, PlacedAs, PlacedOn, Takes}
use Rattle.planner.specs.declared.row.Row.{Row}

-- at the place of each placed row stands the greatest common divisor of the task's period and its own
abbrev pub Divide : List ℕ → List Row → Task → Type 0
Divide divisors placed task =
    (i : ℕ) (row : Row) → slice_get placed i ≡ Some row → IsGcd task.period row.task.period (slice_index divisors i)

-- on controller c in the mode, the row pushes the task's start n further on from s: each start that is passed over meets the
-- row, and s itself does not where n is 0
pub record Pushes (c mode : ℕ) (task : Task) (s : ℕ) (row : Row) (n : ℕ) : Type 0 where
  pub near : n ≤ 60000
  pub passed : (j : ℕ) → s ≤ j → j < s + n → j + budget task mode ≤ task.deadline → Blocks c mode task j row
  pub clear : n ≡ 0 → Blocks c mode task s row → ⊥

-- what a search for the least number with a property answers
abbrev pub LeastIf : (ℕ → Type 0) → Option ℕ → Type 0
LeastIf P (Some s) = Least P s
LeastIf P None = (s : ℕ) → P s → ⊥

-- what a try of controller c answers: how the task is placed on it, or none where it does not take it
abbrev pub TakenAs : ℕ → List Row → Task → Option Row → Type 0
TakenAs c placed task (Some row) = PlacedOn c placed task row
TakenAs c placed task None = Takes c placed task → ⊥

-- what a try of the controllers in an order answers: how the task is placed, or none where no controller below m takes it
abbrev pub ChosenAs : ℕ → List ℕ → List Row → Task → Option Row → Type 0
ChosenAs m order placed task (Some row) = PlacedAs order placed task row
ChosenAs m order placed task None = (c : ℕ) → c < m → Takes c placed task → ⊥

-- each task is in range
abbrev pub EachInRange : List Task → Type 0
EachInRange tasks = (i : ℕ) (task : Task) → slice_get tasks i ≡ Some task → InRange task

-- task i is out of range, and none before it is
pub record FirstOut (tasks : List Task) (i : ℕ) : Type 0 where
  pub task : Task
  pub here : slice_get tasks i ≡ Some task
  pub out : InRange task → ⊥
  pub before : (k : ℕ) → k < i → (task : Task) → slice_get tasks k ≡ Some task → InRange task

-- what a search for the first task out of range answers
abbrev pub FirstOutIf : List Task → Option ℕ → Type 0
FirstOutIf tasks (Some i) = FirstOut tasks i
FirstOutIf tasks None = EachInRange tasks
