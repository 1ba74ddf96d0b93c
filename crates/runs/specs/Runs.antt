-- What a run of a plan answers and leaves.
use Rattle.std.specs.Prelude.{◌≡◌, ℕ, List, ◌++◌, length, take, drop, Ok, Err, Result}
use Rattle.tasks.specs.declared.fault.ControlFault.{ControlFault}
use Rattle.planner.specs.Plans.{rows_of}
use Rattle.planner.specs.declared.plans.Plan.{Plan}
use Rattle.benches.specs.Commands.{States}
use Rattle.machine.specs.History.{History, calls_of}
use Rattle.machine.specs.Laws.{Laws}
use Rattle.machine.specs.Machine.{at_end, loaded, run as run_of}
use Rattle.machine.specs.declared.entry.Call.{Call}
use Rattle.machine.specs.declared.entry.Entry.{Entry}
use Rattle.machine.specs.declared.event.Event.{Event}
use Rattle.control.specs.States.{state_of}
use Rattle.control.specs.declared.control.Control.{Control}

-- Lent places after a tick: the events, and every further place as it was; or all as it was where the tick is refused.
abbrev pub places_after : Result (List Event) ControlFault → List Event → List Event
places_after (Ok es) places = es ++ drop (length es) places
places_after (Err fault) places = places

-- The calls that are sent: as many as the journal has places for.
abbrev pub sent : List Call → List Entry → List Call
sent calls journal = take (length journal) calls

-- A load that is taken, and how many calls were sent then; or its refusal.
abbrev pub after_load : Result (Unit {0}) ControlFault → ℕ → Result ℕ ControlFault
after_load (Ok _) n = Ok n
after_load (Err fault) n = Err fault

-- The plan was loaded and the calls were sent. The history is what was written into the journal.
pub record Ran
    {B F : Type 0} (means : B → States) (keeps : B → F) (plan : Plan) (calls : List Call) (old new : Control B) (journal journal' : List Entry)
    : Type 0 where
  -- the entries are the machine's, fed with the calls alone; the other places of the journal are as they were
  pub history : take (length calls) journal' ≡ run_of (loaded plan.controllers (rows_of plan)) (sent calls journal)
  pub rest : drop (length calls) journal' ≡ drop (length calls) journal
  -- the control and the bench are what the machine leaves
  pub state : state_of means new ≡ at_end (loaded plan.controllers (rows_of plan)) (sent calls journal)
  pub kept : new.plan ≡ plan
  pub fixed : keeps new.bench ≡ keeps old.bench
  -- the history keeps every law, with what the bench shows at the end
  pub laws : Laws plan.controllers (rows_of plan) (take (length calls) journal') (means new.bench)
  -- and nothing else could have come of these calls: no other history of them, and no other bench, keeps the laws
  pub only
      : (h : History) (shows : States) → calls_of h ≡ sent calls journal → Laws plan.controllers (rows_of plan) h shows
      → (h ≡ take (length calls) journal') × (shows ≡ means new.bench)

-- Nothing was changed.
pub record Untouched {B : Type 0} (means : B → States) (old new : Control B) (journal journal' : List Entry) : Type 0 where
  pub state : state_of means new ≡ state_of means old
  pub kept : new.plan ≡ old.plan
  pub bench : new.bench ≡ old.bench
  pub unwritten : journal' ≡ journal

-- What is left, by the answer.
abbrev pub RunAfter
    : {B F : Type 0} → (B → States) → (B → F) → Plan → List Call → Control B → Control B → List Entry → List Entry → Result ℕ ControlFault → Type 0
RunAfter means keeps plan calls old new journal journal' (Ok n) = Ran means keeps plan calls old new journal journal'
RunAfter means keeps plan calls old new journal journal' (Err fault) = Untouched means old new journal journal'
