use Rattle.std.proofs.Common.{ℕ, ◌+◌, ◌-◌, ◌<◌, ◌≤◌, length, get_or}
use Rattle.tasks.specs.Modes.{number}
use Rattle.planner.specs.Placing.{Blocks, Clear}
use Rattle.planner.specs.Rows.{no_row}
use Rattle.planner.proofs.search.Search.least_start.Given as goal

-- no row so far meets the task from this start
abbrev pub invariant-loop-row : goal.invariant-loop-row
invariant-loop-row l =
    (k : ℕ) → k < length l.yielded → Blocks l.controller (number l.mode) l.self.task.now l.start (get_or l.self.placed.now k no_row) → ⊥

-- no earlier start is clear
abbrev pub invariant-starts : goal.invariant-starts
invariant-starts l =
    (l.next ≤ 120000) × ((j : ℕ) → j < l.next → Clear l.controller (number l.mode) l.self.placed.now l.self.task.now j → ⊥)

abbrev pub decreases-starts : goal.decreases-starts
decreases-starts l = l.last + 1 - l.next
