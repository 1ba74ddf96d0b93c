-- The whole way: what planning answered, and what came of the run.
use Rattle.std.specs.Prelude.{◌≡◌, ℕ, List, length, Ok, Err, Result}
use Rattle.tasks.specs.declared.fault.PlanFault.{PlanFault}
use Rattle.tasks.specs.declared.fault.RunFault.{RunFault}
use Rattle.tasks.specs.declared.fault.RunFault.TheVariants.{Plan as Planning, Control as Controlling}
use Rattle.planner.specs.declared.plans.Plan.{Plan}
use Rattle.benches.specs.Commands.{States}
use Rattle.machine.specs.Machine.{load_answer}
use Rattle.machine.specs.declared.entry.Call.{Call}
use Rattle.machine.specs.declared.entry.Entry.{Entry}
use Rattle.control.specs.States.{state_of}
use Rattle.control.specs.declared.control.Control.{Control}
use Rattle.runs.specs.Runs.{Ran, Untouched, after_load, sent}

-- What planning answered.
abbrev pub plan_part : Result ℕ RunFault → Result (Unit {0}) PlanFault
plan_part (Ok n) = Ok tt
plan_part (Err (Planning fault)) = Err fault
plan_part (Err (Controlling fault)) = Ok tt

-- What is left by the answer: the plan is the one that planning left. Where planning or the load refused, control, bench and
-- journal are as they were.
abbrev pub WholeAfter
    : {B F : Type 0} → (B → States) → (B → F) → Plan → List Call → Control B → Control B → List Entry → List Entry → Result ℕ RunFault → Type 0
WholeAfter means keeps plan calls old new journal journal' (Ok n) =
    (Ok n ≡ after_load (load_answer (state_of means old) plan.controllers) (length (sent calls journal)))
    × Ran means keeps plan calls old new journal journal'
WholeAfter means keeps plan calls old new journal journal' (Err (Planning fault)) = Untouched means old new journal journal'
WholeAfter means keeps plan calls old new journal journal' (Err (Controlling fault)) =
    (Err fault ≡ after_load (load_answer (state_of means old) plan.controllers) (length (sent calls journal)))
    × Untouched means old new journal journal'
