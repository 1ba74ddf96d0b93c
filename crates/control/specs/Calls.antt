-- What the calls of a control leave.
use Rattle.std.specs.Prelude.{◌≡◌, ℕ, List, ◌++◌, length, drop, None, Ok, Err, Option, Result, slice_index_or, slice_set}
use Rattle.records.specs.Lists.{lent}
use Rattle.records.specs.declared.Records.{Records}
use Rattle.tasks.specs.declared.fault.ControlFault.{ControlFault}
use Rattle.benches.specs.Commands.{States}
use Rattle.planner.specs.Plans.{rows_of}
use Rattle.planner.specs.declared.plans.Plan.{Plan}
use Rattle.machine.specs.Machine.{after, by_result, end_answer, load_after, load_answer}
use Rattle.machine.specs.declared.entry.Call.{Call}
use Rattle.machine.specs.declared.event.Event.{Event}
use Rattle.control.specs.States.{state_of}
use Rattle.control.specs.declared.control.Control.{Control}

-- The control and its bench are what the machine leaves after the call; the plan is the same, and what no command changes of
-- the bench.
pub record Steps {B F : Type 0} (means : B → States) (keeps : B → F) (old new : Control B) (call : Call) : Type 0 where
  pub state : state_of means new ≡ after (state_of means old) call
  pub plan : new.plan ≡ old.plan
  pub fixed : keeps new.bench ≡ keeps old.bench

-- The control is what the machine leaves after a load, and keeps the plan where it is taken; the bench is untouched.
pub record Loads {B : Type 0} (means : B → States) (old new : Control B) (plan : Plan) : Type 0 where
  pub state : state_of means new ≡ load_after (state_of means old) plan.controllers (rows_of plan)
  pub kept : new.plan ≡ by_result (load_answer (state_of means old) plan.controllers) plan old.plan
  pub bench : new.bench ≡ old.bench

-- The row of a job that was ended, or why none was.
abbrev pub row_ended : Option ℕ → Result (Unit {0}) ControlFault → Result (Option ℕ) ControlFault
row_ended row (Ok _) = Ok row
row_ended row (Err fault) = Err fault

-- The job on a controller is ended on the bench, and counted for no row yet; the answer is its row.
pub record Ends
    {B F : Type 0} (means : B → States) (keeps : B → F) (old new : Control B) (c : ℕ) (answer : Result (Option ℕ) ControlFault)
    : Type 0 where
  pub row : answer ≡ row_ended (slice_index_or (means old.bench) c None) (end_answer (state_of means old) c)
  pub shows : means new.bench ≡ by_result (end_answer (state_of means old) c) (slice_set (means old.bench) c None) (means old.bench)
  pub plan : new.plan ≡ old.plan
  pub mode : new.mode ≡ old.mode
  pub opening : new.opening ≡ old.opening
  pub next : new.next ≡ old.next
  pub jobs : new.jobs ≡ old.jobs
  pub tallies : new.tallies ≡ old.tallies
  pub fixed : keeps new.bench ≡ keeps old.bench

-- How many events there are, where a tick is taken.
abbrev pub counted : Result (List Event) ControlFault → Result ℕ ControlFault
counted (Ok es) = Ok (length es)
counted (Err fault) = Err fault

-- The list of events after a tick: begun at its first place with the events, and every further place as it was; or all as it
-- was where the tick is refused.
abbrev pub EventsAfter : Records Event → Result (List Event) ControlFault → Records Event → Type 0
EventsAfter before (Ok es) list =
    (list.len ≡ length es)
    × (lent list ≡ es ++ drop (length es) (lent before))
    × (list.places.ghost_name ≡ before.places.ghost_name)
EventsAfter before (Err fault) list =
    (list.len ≡ before.len)
    × (lent list ≡ lent before)
    × (list.places.ghost_name ≡ before.places.ghost_name)
