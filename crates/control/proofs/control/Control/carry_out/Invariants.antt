use Rattle.std.proofs.Common.{◌≤◌, length}
use Rattle.control.specs.Turns.{Did, deed_events}
use Rattle.control.proofs.control.Control.carry_out.Given as goal

-- the deed is done on the controllers so far
abbrev pub invariant-loop-c : goal.invariant-loop-c
invariant-loop-c g l =
    Did g.B.Bench.meaning g.B.Bench.fixed l.initial.self l.self l.initial.events l.events (deed_events l.deed l.c l.rows)
    × (l.c ≤ length (g.B.Bench.meaning l.initial.self.bench))
