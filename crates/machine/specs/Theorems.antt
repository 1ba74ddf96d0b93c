-- What is proved of the machine.
use Rattle.std.specs.Prelude.{◌≡◌, ℕ, ◌≤◌, List}
use Rattle.planner.specs.declared.row.Row.{Row as PlanRow}
use Rattle.machine.specs.declared.entry.Call.{Call}
use Rattle.planner.specs.Standing.{Stands}
use Rattle.machine.specs.Machine.{loaded, run, at_end}
use Rattle.machine.specs.History.{History, calls_of}
use Rattle.machine.specs.Laws.{Laws}
use Rattle.benches.specs.Commands.{States}

-- Every history that the machine writes from a fresh load of a plan that stands keeps the laws.
abbrev pub EveryRunKeepsTheLaws : Type 0
EveryRunKeepsTheLaws =
    (m : ℕ) (rows : List PlanRow) → 1 ≤ m → Stands m rows
    → (calls : List Call) → Laws m rows (run (loaded m rows) calls) (at_end (loaded m rows) calls).shows

-- The laws leave nothing open: a history that keeps them is the one that the machine writes for its calls, and the bench shows
-- what the machine leaves on it.
abbrev pub LawsLeaveNothingOpen : Type 0
LawsLeaveNothingOpen =
    (m : ℕ) (rows : List PlanRow) → 1 ≤ m → Stands m rows
    → (h : History) (shows : States) → Laws m rows h shows
    → (h ≡ run (loaded m rows) (calls_of h)) × (shows ≡ (at_end (loaded m rows) (calls_of h)).shows)
