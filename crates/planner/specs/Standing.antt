-- What holds of every plan.
use Rattle.std.specs.Prelude.{◌≡◌, ℕ, ◌<◌, ◌≤◌, List, length, Some}
use Rattle.std.specs.List.{slice_get}
use Rattle.slots.specs.Slots.{Meet}
use Rattle.tasks.specs.Tasks.{Belongs}
use Rattle.planner.specs.Rows.{Occupies, Sound}
use Rattle.planner.specs.declared.row.Row.{Row}

-- Two rows on one controller that meet in a mode of both.
pub record Clash (rows : List Row) : Type 0 where
  pub i : ℕ
  pub j : ℕ
  pub a : Row
  pub b : Row
  pub mode : ℕ
  pub before : i < j
  pub at_i : slice_get rows i ≡ Some a
  pub at_j : slice_get rows j ≡ Some b
  pub together : a.controller ≡ b.controller
  pub a_belongs : Belongs a.task mode
  pub b_belongs : Belongs b.task mode
  pub meet : Meet (Occupies a mode) (Occupies b mode)

-- No two rows meet.
abbrev pub NoneMeet : List Row → Type 0
NoneMeet rows = Clash rows → ⊥

-- Each row is sound.
abbrev pub EachSound : List Row → Type 0
EachSound rows = (i : ℕ) (row : Row) → slice_get rows i ≡ Some row → Sound row

-- Each row is on one of m controllers.
abbrev pub EachOn : ℕ → List Row → Type 0
EachOn m rows = (i : ℕ) (row : Row) → slice_get rows i ≡ Some row → row.controller < m

-- What holds of the rows of every plan for m controllers.
pub record Stands (m : ℕ) (rows : List Row) : Type 0 where
  -- there are at most eight controllers and sixty-four rows
  pub few : m ≤ 8
  pub short : length rows ≤ 64
  pub sound : EachSound rows
  pub there : EachOn m rows
  pub apart : NoneMeet rows
