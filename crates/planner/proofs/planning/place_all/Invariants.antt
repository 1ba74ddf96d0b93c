use Rattle.std.proofs.Common.{◌≡◌, length, take, drop}
use Rattle.planner.specs.Planning.{Placed, told_of}
use Rattle.planner.proofs.planning.place_all.Given as goal

-- the tasks so far are placed, the policy was told of their rows, and the table past all tasks is as it was
abbrev pub invariant-loop-i : goal.invariant-loop-i
invariant-loop-i g l =
    Placed g.P.Policy.meaning l.initial.policy (take l.i l.tasks) (take l.i l.table)
    × (l.policy ≡ told_of g.P.Policy.meaning l.initial.policy (take l.i l.table))
    × (drop (length l.tasks) l.table ≡ drop (length l.tasks) l.initial.table)
