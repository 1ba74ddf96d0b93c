use Rattle.std.proofs.Common.{◌≡◌, take}
use Rattle.benches.specs.Sets.{busy_set}
use Rattle.benches.proofs.busy.busy_set.Given as goal

abbrev pub invariant-loop-controller : goal.invariant-loop-controller
invariant-loop-controller g l = l.set ≡ busy_set (take l.controller (g.B.Bench.meaning l.bench))
