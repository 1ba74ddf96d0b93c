-- What belongs to a mode, and when the numbers of a task are in range.
use Rattle.std.specs.Prelude.{◌≡◌, ℕ, ◌<◌, ◌≤◌, Bool, cond, ◌&&◌, ◌==◌, nat_le}
use Rattle.tasks.specs.Modes.{in_mode}
use Rattle.tasks.specs.declared.task.Task.{Task}

-- a task belongs to each mode up to its level
abbrev pub Belongs : Task → ℕ → Type 0
Belongs t mode = mode ≤ t.level

-- whether it does
abbrev pub belongs : Task → ℕ → Bool
belongs t mode = nat_le mode t.level

-- the budget of a task in a mode
abbrev pub budget : Task → ℕ → ℕ
budget t mode = in_mode t.budgets mode

-- every number of a task is in its range; an id is any byte
pub record InRange (t : Task) : Type 0 where
  pub level : t.level ≤ 1
  pub period : (1 ≤ t.period) × (t.period ≤ 60000)
  pub deadline : (1 ≤ t.deadline) × (t.deadline ≤ t.period)
  -- in each of its modes the task has a budget, and the deadline allows it
  pub some : (mode : ℕ) → Belongs t mode → 1 ≤ budget t mode
  pub within : (mode : ℕ) → Belongs t mode → budget t mode ≤ t.deadline
  -- no mode's budget is below that of a mode before it
  pub rising : (j k : ℕ) → j ≤ k → Belongs t k → budget t j ≤ budget t k
  -- in the other modes it has none
  pub blank : (mode : ℕ) → t.level < mode → budget t mode ≡ 0

-- whether the period, the deadline and the everyday budget are in range
abbrev pub times_in_range : Task → Bool
times_in_range t =
    (nat_le 1 t.period && nat_le t.period 60000)
    && ((nat_le 1 t.deadline && nat_le t.deadline t.period)
    && (nat_le 1 (budget t 0) && nat_le (budget t 0) t.deadline))

-- whether the critical budget is: none for an everyday task, else from the everyday budget to the deadline
abbrev pub critical_in_range : Task → Bool
critical_in_range t =
    cond (t.level == 0) (budget t 1 == 0) (nat_le (budget t 0) (budget t 1) && nat_le (budget t 1) t.deadline)

-- whether every number of a task is in its range
abbrev pub in_range : Task → Bool
in_range t = nat_le t.level 1 && (times_in_range t && critical_in_range t)
