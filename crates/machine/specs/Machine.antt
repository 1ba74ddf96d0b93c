-- The machine: what each call answers and what it leaves, on every state. First the decision, then the deed: a tick decides
-- its events, and the state after is the state on which those events were carried out. A refusal changes nothing.
use Rattle.std.specs.Prelude.{ℕ, ◌+◌, ◌-◌, ◌*◌, ◌%◌, ◌^◌, min, Bool, true, false, cond, ◌&&◌, ◌||◌, List, [], ◌∷◌, ◌++◌, length, replicate, is_some, Some, None, Ok, Err, Option, Result, ◌==◌, nat_le, nat_lt, slice_index, slice_index_or, slice_set}
use Rattle.std.specs.List.{slice_get}
use Rattle.tasks.specs.Refusals.{control_refusal}
use Rattle.tasks.specs.Tasks.{budget}
use Rattle.tasks.specs.declared.fault.BenchFault.{BenchFault}
use Rattle.tasks.specs.declared.fault.BenchFault.TheVariants.{Busy as StartOnBusy}
use Rattle.tasks.specs.declared.fault.ControlFault.{ControlFault}
use Rattle.tasks.specs.declared.fault.ControlFault.TheVariants.{Bench, NotLoaded, Loaded, Counts as CountsDiffer, Busy, Everyday, Places, Over, NoRow}
use Rattle.planner.specs.Rows.{start}
use Rattle.planner.specs.declared.row.Row.{Row as PlanRow}
use Rattle.benches.specs.Commands.{States, end_answer as bench_end, state_answer as bench_state}
use Rattle.machine.specs.declared.entry.Counts.{Counts}
use Rattle.machine.specs.declared.entry.Standing.{Standing}
use Rattle.machine.specs.declared.entry.Reply.{Reply}
use Rattle.machine.specs.declared.entry.Reply.TheVariants.{Ticked, Done, Shown, Counted, Stood}
use Rattle.machine.specs.declared.entry.Entry.{Entry}
use Rattle.machine.specs.declared.entry.Call.{Call}
use Rattle.machine.specs.declared.entry.Call.TheVariants.{Tick, Report, Strike, Return, Controller, Row, Status}
use Rattle.machine.specs.declared.event.Event.{Event}
use Rattle.machine.specs.declared.event.Event.TheVariants.{Switch, Cut, Start}
use Rattle.machine.specs.Below.{first_below, count_below, each_below}
use Rattle.machine.specs.Entries.{Answer, Job, written, events_of, mode_of, entry}

-- controllers, rows: the loaded plan's, and none before a load. shows: by controller, what the bench shows. since: by
-- controller, the instant at which the present job started. counts: by row.
pub record State : Type 0 where
  pub controllers : ℕ
  pub rows : List PlanRow
  pub mode : ℕ
  pub opening : ℕ
  pub next : ℕ
  pub shows : States
  pub since : List ℕ
  pub counts : List Counts

-- No start, no report, no cut.
abbrev pub none_yet : Counts
none_yet = record { starts = 0; reports = 0; cuts = 0 }

-- At instant 0, on a bench that shows this, with a plan for so many controllers. The tables have a place for each of 8
-- controllers and of 64 rows.
abbrev pub fresh : ℕ → List PlanRow → States → State
fresh m rows shows = record {
  controllers = m;
  rows = rows;
  mode = 0;
  opening = 0;
  next = 0;
  shows = shows;
  since = replicate 8 0;
  counts = replicate 64 none_yet;
}

-- Made over a bench that shows this: no plan is loaded.
abbrev pub unloaded : States → State
unloaded shows = fresh 0 [] shows

-- Just loaded, on an idle bench of m controllers.
abbrev pub loaded : ℕ → List PlanRow → State
loaded m rows = fresh m rows (replicate m None)

-- The job of the row that a controller is busy with, if it is.
abbrev pub job_of : Option ℕ → ℕ → Option Job
job_of None t = None
job_of (Some r) t = Some (record { row = r; since = t })

-- The job on a controller.
abbrev pub job : State → ℕ → Option Job
job s c = job_of (slice_index_or s.shows c None) (slice_index s.since c)

-- ---- what a tick decides

-- The budget of a row in a mode, and 0 where the plan has no such row.
abbrev pub budget_at : Option PlanRow → ℕ → ℕ
budget_at None mode = 0
budget_at (Some row) mode = budget row.task mode

-- A job is spent when now less its start instant is at least its budget in the mode.
abbrev pub spent : List PlanRow → ℕ → ℕ → Option Job → Bool
spent rows mode now None = false
spent rows mode now (Some j) = nat_le (budget_at (slice_get rows j.row) mode) (now - j.since)

-- Whether a spent job is on a controller.
abbrev pub spent_on : State → ℕ → Bool
spent_on s c = spent s.rows s.mode s.next (job s c)

-- Whether the tick switches: in everyday mode, if some job is spent.
abbrev pub switches : State → Bool
switches s = s.mode == 0 && is_some (first_below (length s.shows) (spent_on s))

-- The mode in force after a switch, if there is one.
abbrev pub mode_then : State → ℕ
mode_then s = cond (switches s) 1 s.mode

-- The instant at which it opened.
abbrev pub opening_then : State → ℕ
opening_then s = cond (switches s) s.next s.opening

-- Whether a job on a controller is cut: every one where the tick switches, else the spent ones.
abbrev pub cut_on : State → ℕ → Bool
cut_on s c = switches s || spent_on s c

-- The job that the cuts leave on a controller.
abbrev pub left_on : State → ℕ → Option Job
left_on s c = cond (cut_on s c) None (job s c)

-- Whether the row is on this controller and of this mode, and its turn comes after so many instants of the mode.
abbrev pub due_at : Option PlanRow → ℕ → ℕ → ℕ → Bool
due_at None mode elapsed c = false
due_at (Some row) mode elapsed c =
    (row.controller == c) && (nat_le mode row.task.level && elapsed % row.task.period == start row mode)

-- The row of these that is due on a controller after so many instants of a mode.
abbrev pub due_in : List PlanRow → ℕ → ℕ → ℕ → Option ℕ
due_in rows mode elapsed c = first_below (length rows) (λ r. due_at (slice_get rows r) mode elapsed c)

-- The row that is due on a controller, in the mode now in force.
abbrev pub due_on : State → ℕ → Option ℕ
due_on s c = due_in s.rows (mode_then s) (s.next - opening_then s) c

-- The switch, if there is one.
abbrev pub switch_event : Bool → List Event
switch_event false = []
switch_event true = Switch ∷ []

-- The cut of a job, if it is cut.
abbrev pub cut_event : ℕ → Bool → Option Job → List Event
cut_event c cut None = []
cut_event c false (Some j) = []
cut_event c true (Some j) = Cut c j.row ∷ []

-- The start of a row, if one is due.
abbrev pub start_event : ℕ → Option ℕ → List Event
start_event c None = []
start_event c (Some r) = Start c r ∷ []

-- The events of a tick: a switch, the cuts by rising controller, the starts by rising controller.
abbrev pub tick_events : State → List Event
tick_events s =
    switch_event (switches s)
    ++ (each_below (length s.shows) (λ c. cut_event c (cut_on s c) (job s c))
    ++ each_below (length s.shows) (λ c. start_event c (due_on s c)))

-- Whether a row is due on a controller that would not be idle then.
abbrev pub blocked : State → ℕ → Bool
blocked s c = is_some (due_on s c) && is_some (left_on s c)

-- Whether a controller is busy.
abbrev pub busy : State → ℕ → Bool
busy s c = is_some (slice_index_or s.shows c None)

-- Whether some controller is.
abbrev pub some_busy : State → Bool
some_busy s = is_some (first_below (length s.shows) (busy s))

-- ---- the answers

-- The first instant that is not ticked any more.
abbrev pub end_of_time : ℕ
end_of_time = 2 ^ 40

-- Every call but a load wants a loaded plan before anything else.
abbrev pub when_loaded : {X : Type 0} → State → Result X ControlFault → Result X ControlFault
when_loaded s r = cond (s.controllers == 0) (Err NotLoaded) r

-- A fault of the bench is carried up whole.
abbrev pub from_bench : {X : Type 0} → Result X BenchFault → Result X ControlFault
from_bench (Ok x) = Ok x
from_bench (Err fault) = Err (Bench fault)

-- In no run is a tick blocked; on a state where one is, it is refused as the bench would refuse the start.
abbrev pub unless_blocked : Option ℕ → List Event → Result (List Event) ControlFault
unless_blocked None es = Ok es
unless_blocked (Some c) es = Err (Bench (StartOnBusy c))

-- The answer to a load of a plan for m controllers.
abbrev pub load_answer : State → ℕ → Result (Unit {0}) ControlFault
load_answer s m =
    cond (s.controllers == 0)
    (cond (m == 0) (Err CountsDiffer)
    (cond (m == length s.shows) (cond (some_busy s) (Err Busy) (Ok tt)) (Err CountsDiffer)))
    (Err Loaded)

-- The answer to a tick with so many places for its events. In no run does the next instant pass the last; on a state where it
-- has, a tick is refused too.
abbrev pub tick_answer : State → ℕ → Result (List Event) ControlFault
tick_answer s places =
    when_loaded s
    (cond (nat_le end_of_time s.next) (Err Over)
    (cond (nat_lt places (2 * length s.shows + 1)) (Err Places)
    (unless_blocked (first_below (length s.shows) (blocked s)) (tick_events s))))

-- The answer to a report or a strike.
abbrev pub end_answer : State → ℕ → Result (Unit {0}) ControlFault
end_answer s c = when_loaded s (from_bench (bench_end s.shows c))

-- The answer to a return.
abbrev pub return_answer : State → Result (Unit {0}) ControlFault
return_answer s = when_loaded s (cond (s.mode == 0) (Err Everyday) (cond (some_busy s) (Err Busy) (Ok tt)))

-- The answer to the question what a controller does.
abbrev pub state_answer : State → ℕ → Result (Option ℕ) ControlFault
state_answer s c = when_loaded s (from_bench (bench_state s.shows c))

-- The answer to the question for the counts of a row.
abbrev pub counts_answer : State → ℕ → Result Counts ControlFault
counts_answer s r = when_loaded s (cond (nat_lt r (length s.rows)) (Ok (slice_index_or s.counts r none_yet)) (Err (NoRow r)))

-- The answer to the question how things stand.
abbrev pub standing_answer : State → Result Standing ControlFault
standing_answer s = when_loaded s (Ok (record {
  mode = mode_of s.mode;
  opening = s.opening;
  next = s.next;
  busy = count_below (length s.shows) (busy s);
  lowest = first_below (length s.shows) (busy s);
}))

-- An answer as a history has it: a refusal has its reason, layer and place.
abbrev pub answered : {X : Type 0} → (X → Reply) → Result X ControlFault → Answer
answered taken (Ok x) = Ok (taken x)
answered taken (Err fault) = Err (control_refusal fault)

-- The answer to a call.
abbrev pub answer : State → Call → Answer
answer s (Tick places) = answered (λ es. Ticked (written es)) (tick_answer s places)
answer s (Report c) = answered (λ _. Done) (end_answer s c)
answer s (Strike c) = answered (λ _. Done) (end_answer s c)
answer s Return = answered (λ _. Done) (return_answer s)
answer s (Controller c) = answered Shown (state_answer s c)
answer s (Row r) = answered Counted (counts_answer s r)
answer s Status = answered Stood (standing_answer s)

-- ---- the state after

-- The highest count.
abbrev pub most : ℕ
most = 2 ^ 64 - 1

-- One more, up to the highest.
abbrev pub more : ℕ → ℕ
more n = min (n + 1) most

-- With a start more.
abbrev pub with_start : Counts → Counts
with_start n = record { starts = more n.starts; reports = n.reports; cuts = n.cuts }

-- With a report more.
abbrev pub with_report : Counts → Counts
with_report n = record { starts = n.starts; reports = more n.reports; cuts = n.cuts }

-- With a cut more.
abbrev pub with_cut : Counts → Counts
with_cut n = record { starts = n.starts; reports = n.reports; cuts = more n.cuts }

-- The counts of one row changed.
abbrev pub count_at : List Counts → ℕ → (Counts → Counts) → List Counts
count_at counts r change = slice_set counts r (change (slice_index_or counts r none_yet))

-- The counts of the row that a controller is busy with changed, if it is.
abbrev pub count_for : List Counts → Option ℕ → (Counts → Counts) → List Counts
count_for counts None change = counts
count_for counts (Some r) change = count_at counts r change

-- One event carried out.
abbrev pub act : State → Event → State
act s Switch = record {
  controllers = s.controllers;
  rows = s.rows;
  mode = 1;
  opening = s.next;
  next = s.next;
  shows = s.shows;
  since = s.since;
  counts = s.counts;
}
act s (Cut c r) = record {
  controllers = s.controllers;
  rows = s.rows;
  mode = s.mode;
  opening = s.opening;
  next = s.next;
  shows = slice_set s.shows c None;
  since = s.since;
  counts = count_at s.counts r with_cut;
}
act s (Start c r) = record {
  controllers = s.controllers;
  rows = s.rows;
  mode = s.mode;
  opening = s.opening;
  next = s.next;
  shows = slice_set s.shows c (Some r);
  since = slice_set s.since c s.next;
  counts = count_at s.counts r with_start;
}

-- Events carried out, the first first.
abbrev pub acts : State → List Event → State
acts s [] = s
acts s (e ∷ es) = acts (act s e) es

-- The instant is over.
abbrev pub passed : State → State
passed s = record {
  controllers = s.controllers;
  rows = s.rows;
  mode = s.mode;
  opening = s.opening;
  next = s.next + 1;
  shows = s.shows;
  since = s.since;
  counts = s.counts;
}

-- The job on a controller is ended, and counted for its row.
abbrev pub ended : State → ℕ → (Counts → Counts) → State
ended s c change = record {
  controllers = s.controllers;
  rows = s.rows;
  mode = s.mode;
  opening = s.opening;
  next = s.next;
  shows = slice_set s.shows c None;
  since = s.since;
  counts = count_for s.counts (slice_index_or s.shows c None) change;
}

-- Everyday mode opens at the next instant.
abbrev pub returned : State → State
returned s = record {
  controllers = s.controllers;
  rows = s.rows;
  mode = 0;
  opening = s.next;
  next = s.next;
  shows = s.shows;
  since = s.since;
  counts = s.counts;
}

-- What an accepted command does.
abbrev pub done : State → Call → State
done s (Tick places) = s
done s (Report c) = ended s c with_report
done s (Strike c) = ended s c with_cut
done s Return = returned s
done s (Controller c) = s
done s (Row r) = s
done s Status = s

-- What a call with this answer leaves.
abbrev pub settle : State → Call → Answer → State
settle s call (Ok (Ticked w)) = passed (acts s (events_of w))
settle s call (Ok Done) = done s call
settle s call (Ok (Shown x)) = s
settle s call (Ok (Counted x)) = s
settle s call (Ok (Stood x)) = s
settle s call (Err x) = s

-- What a call leaves.
abbrev pub after : State → Call → State
after s call = settle s call (answer s call)

-- The first where a call is taken, the second where it is refused.
abbrev pub by_result : {X Y : Type 0} → Result X ControlFault → Y → Y → Y
by_result (Ok _) taken refused = taken
by_result (Err _) taken refused = refused

-- What a load leaves.
abbrev pub load_after : State → ℕ → List PlanRow → State
load_after s m rows = by_result (load_answer s m) (fresh m rows s.shows) s

-- ---- runs

-- The history that a list of calls gives, the oldest first.
abbrev pub run : State → List Call → List Entry
run s [] = []
run s (call ∷ calls) = entry call (answer s call) ∷ run (after s call) calls

-- The state that it leaves.
abbrev pub at_end : State → List Call → State
at_end s [] = s
at_end s (call ∷ calls) = at_end (after s call) calls
