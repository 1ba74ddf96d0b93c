use Rattle.std.proofs.Common.{◌≡◌, take, drop}
use Rattle.planner.specs.Plans.{rows_of}
use Rattle.machine.specs.Machine.{at_end, loaded, run as run_of}
use Rattle.control.specs.States.{state_of}
use Rattle.runs.proofs.running.run.Given as goal

-- the calls so far were sent to the loaded control, and are written down
abbrev pub invariant-loop-i : goal.invariant-loop-i
invariant-loop-i g l =
    let begun = loaded l.plan.controllers (rows_of l.plan) in
    (state_of g.B.Bench.meaning l.control ≡ at_end begun (take l.i l.calls))
    × (l.control.plan ≡ l.plan)
    × (g.B.Bench.fixed l.control.bench ≡ g.B.Bench.fixed l.initial.control.bench)
    × (take l.i l.journal ≡ run_of begun (take l.i l.calls))
    × (drop l.i l.journal ≡ drop l.i l.initial.journal)
