-- What a history tells by itself, read off its entries one after the other, the oldest first. Nothing here looks at the machine.
use Rattle.std.specs.Prelude.{ℕ, ◌+◌, Bool, true, false, cond, ◌&&◌, List, [], ◌∷◌, Some, None, Ok, Err, Option, ◌==◌}
use Rattle.machine.specs.declared.event.Event.{Event}
use Rattle.machine.specs.declared.event.Event.TheVariants.{Switch, Cut, Start}
use Rattle.machine.specs.declared.entry.Call.{Call}
use Rattle.machine.specs.declared.entry.Call.TheVariants.{Tick, Report, Strike, Return, Controller, Row, Status}
use Rattle.machine.specs.declared.entry.Reply.TheVariants.{Ticked, Done, Shown, Counted, Stood}
use Rattle.machine.specs.declared.entry.Entry.{Entry}
use Rattle.machine.specs.Entries.{Answer, Job, events_of}

abbrev pub History : Type 0
History = List Entry

abbrev pub calls_of : History → List Call
calls_of [] = []
calls_of (e ∷ es) = e.call ∷ calls_of es

-- ticks: the accepted ticks so far, so the next instant. mode, opening: the mode in force and the instant at which it opened.
-- running: by controller, the job that runs there. The others by row: start events, accepted reports and accepted strikes
-- that ended a job of the row, cut events.
pub record Told : Type 0 where
  pub ticks : ℕ
  pub mode : ℕ
  pub opening : ℕ
  pub running : ℕ → Option Job
  pub starts : ℕ → ℕ
  pub reports : ℕ → ℕ
  pub strikes : ℕ → ℕ
  pub cuts : ℕ → ℕ

-- the same but at one number
abbrev pub put : {X : Type 0} → ℕ → X → (ℕ → X) → ℕ → X
put i x f j = cond (j == i) x (f j)

abbrev pub one_more : ℕ → (ℕ → ℕ) → ℕ → ℕ
one_more r f = put r (f r + 1) f

-- one more for the row of the job, if there is one
abbrev pub one_more_for : Option Job → (ℕ → ℕ) → ℕ → ℕ
one_more_for None f = f
one_more_for (Some j) f = one_more j.row f

abbrev pub nothing : Told
nothing = record {
  ticks = 0;
  mode = 0;
  opening = 0;
  running = λ _. None;
  starts = λ _. 0;
  reports = λ _. 0;
  strikes = λ _. 0;
  cuts = λ _. 0;
}

abbrev pub tell_event : Told → Event → Told
tell_event h Switch = record {
  ticks = h.ticks;
  mode = 1;
  opening = h.ticks;
  running = h.running;
  starts = h.starts;
  reports = h.reports;
  strikes = h.strikes;
  cuts = h.cuts;
}
tell_event h (Cut c r) = record {
  ticks = h.ticks;
  mode = h.mode;
  opening = h.opening;
  running = put c None h.running;
  starts = h.starts;
  reports = h.reports;
  strikes = h.strikes;
  cuts = one_more r h.cuts;
}
tell_event h (Start c r) = record {
  ticks = h.ticks;
  mode = h.mode;
  opening = h.opening;
  running = put c (Some (record { row = r; since = h.ticks })) h.running;
  starts = one_more r h.starts;
  reports = h.reports;
  strikes = h.strikes;
  cuts = h.cuts;
}

abbrev pub tell_events : Told → List Event → Told
tell_events h [] = h
tell_events h (e ∷ es) = tell_events (tell_event h e) es

abbrev pub tell_tick : Told → Told
tell_tick h = record {
  ticks = h.ticks + 1;
  mode = h.mode;
  opening = h.opening;
  running = h.running;
  starts = h.starts;
  reports = h.reports;
  strikes = h.strikes;
  cuts = h.cuts;
}

-- an accepted command
abbrev pub tell_done : Told → Call → Told
tell_done h (Tick places) = h
tell_done h (Report c) = record {
  ticks = h.ticks;
  mode = h.mode;
  opening = h.opening;
  running = put c None h.running;
  starts = h.starts;
  reports = one_more_for (h.running c) h.reports;
  strikes = h.strikes;
  cuts = h.cuts;
}
tell_done h (Strike c) = record {
  ticks = h.ticks;
  mode = h.mode;
  opening = h.opening;
  running = put c None h.running;
  starts = h.starts;
  reports = h.reports;
  strikes = one_more_for (h.running c) h.strikes;
  cuts = h.cuts;
}
tell_done h Return = record {
  ticks = h.ticks;
  mode = 0;
  opening = h.ticks;
  running = h.running;
  starts = h.starts;
  reports = h.reports;
  strikes = h.strikes;
  cuts = h.cuts;
}
tell_done h (Controller c) = h
tell_done h (Row r) = h
tell_done h Status = h

abbrev pub tell : Told → Call → Answer → Told
tell h call (Ok (Ticked w)) = tell_tick (tell_events h (events_of w))
tell h call (Ok Done) = tell_done h call
tell h call (Ok (Shown x)) = h
tell h call (Ok (Counted x)) = h
tell h call (Ok (Stood x)) = h
tell h call (Err x) = h

abbrev pub tell_all : Told → History → Told
tell_all h [] = h
tell_all h (e ∷ es) = tell_all (tell h e.call e.answer) es

-- what the whole history tells
abbrev pub told : History → Told
told es = tell_all nothing es

-- whether two events are the same
abbrev pub same_event : Event → Event → Bool
same_event Switch Switch = true
same_event Switch (Cut d q) = false
same_event Switch (Start d q) = false
same_event (Cut c r) Switch = false
same_event (Cut c r) (Cut d q) = c == d && r == q
same_event (Cut c r) (Start d q) = false
same_event (Start c r) Switch = false
same_event (Start c r) (Cut d q) = false
same_event (Start c r) (Start d q) = c == d && r == q

-- how many times the event is written
abbrev pub times : Event → List Event → ℕ
times e [] = 0
times e (x ∷ xs) = cond (same_event e x) 1 0 + times e xs
