-- The laws over a history, for a plan of these rows on a bench of m controllers.
use Rattle.std.specs.Prelude.{◌≡◌, ℕ, ◌+◌, ◌*◌, ◌^◌, ◌<◌, ◌≤◌, ◌⊎◌, ◌↔◌, List, ◌∷◌, ◌++◌, length, is_some, Some, None, Ok, Err, Option, ◌≢◌, slice_index_or}
use Rattle.planner.specs.declared.row.Row.{Row as PlanRow}
use Rattle.machine.specs.declared.entry.Counts.{Counts}
use Rattle.machine.specs.declared.entry.Standing.{Standing}
use Rattle.tasks.specs.declared.refusal.Refusal.{Refusal}
use Rattle.machine.specs.declared.event.Event.{Event}
use Rattle.machine.specs.declared.event.Event.TheVariants.{Switch, Cut, Start}
use Rattle.machine.specs.declared.entry.Call.{Call}
use Rattle.machine.specs.declared.entry.Call.TheVariants.{Tick, Report, Strike, Return, Controller, Row, Status}
use Rattle.machine.specs.Below.{first_below, count_below}
use Rattle.machine.specs.Plans.{Due}
use Rattle.tasks.specs.Refusals.{reason_number}
use Rattle.tasks.specs.Tasks.{budget}
use Rattle.planner.specs.Rows.{start}
use Rattle.std.specs.List.{slice_get}
use Rattle.machine.specs.declared.event.Written.{Written}
use Rattle.machine.specs.declared.entry.Reply.TheVariants.{Ticked, Done, Shown, Counted, Stood}
use Rattle.tasks.specs.declared.reason.Layer.TheVariants as layer
use Rattle.tasks.specs.declared.reason.Reason.TheVariants as reason
use Rattle.machine.specs.Entries.{Answer, Job, written, events_of, refuse, mode_of, entry}
use Rattle.machine.specs.History.{History, Told, told, tell_events, times}

-- P holds of each call with its answer, and of what the history before it tells
abbrev pub AtEachCall : History → (Told → Call → Answer → Type 0) → Type 0
AtEachCall h P = (before after : History) (call : Call) (a : Answer) → h ≡ before ++ (entry call a ∷ after) → P (told before) call a

-- P holds of the events of each accepted tick, and of what the history before it tells
abbrev pub AtEachTick : History → (Told → List Event → Type 0) → Type 0
AtEachTick h P = AtEachCall h (λ before call a. (w : Written) → a ≡ Ok (Ticked w) → P before (events_of w))

-- On time. The instant of the tick is the number of ticks before it; the mode in force is the one that its events leave.
pub record OnTime (rows : List PlanRow) (before : Told) (es : List Event) : Type 0 where
  -- a row has a start event on its own controller exactly when it is due
  pub exactly_when
      : (r : ℕ) (row : PlanRow) → slice_get rows r ≡ Some row
      → (times (Start row.controller r) es ≡ 1) ↔ Due row (tell_events before es).mode (tell_events before es).opening before.ticks
  pub once : (c r : ℕ) → times (Start c r) es ≤ 1
  -- no other start event is written
  pub no_other : (c r : ℕ) → 1 ≤ times (Start c r) es → (row : PlanRow) × (slice_get rows r ≡ Some row) × (row.controller ≡ c)

-- the job has had its budget in the mode, at this instant
abbrev pub Spent : List PlanRow → ℕ → ℕ → Job → Type 0
Spent rows mode now j = (row : PlanRow) × (slice_get rows j.row ≡ Some row) × (j.since + budget row.task mode ≤ now)

-- Overruns. The jobs and the mode are those before the tick.
pub record Overruns (rows : List PlanRow) (before : Told) (es : List Event) : Type 0 where
  -- the tick switches exactly when the mode is everyday and a running job is spent
  pub switch_when
      : (times Switch es ≡ 1) ↔ ((before.mode ≡ 0) × ((c : ℕ) × (j : Job) × (before.running c ≡ Some j) × Spent rows before.mode before.ticks j))
  pub switch_once : times Switch es ≤ 1
  -- a running job is cut exactly when the tick switches or the job is spent
  pub cut_when
      : (c : ℕ) (j : Job) → before.running c ≡ Some j
      → (times (Cut c j.row) es ≡ 1) ↔ ((times Switch es ≡ 1) ⊎ Spent rows before.mode before.ticks j)
  pub cut_once : (c r : ℕ) → times (Cut c r) es ≤ 1
  -- no other cut event is written
  pub no_other_cut : (c r : ℕ) → 1 ≤ times (Cut c r) es → (j : Job) × (before.running c ≡ Some j) × (j.row ≡ r)

-- In order. The switch, then the cuts by rising controller, then the starts by rising controller: of two events, one right
-- after the other, the later has the higher place.
abbrev pub place_of : ℕ → Event → ℕ
place_of m Switch = 0
place_of m (Cut c r) = 1 + c
place_of m (Start c r) = 1 + m + c

abbrev pub InOrder : ℕ → Told → List Event → Type 0
InOrder m before es = (first rest : List Event) (x y : Event) → es ≡ first ++ (x ∷ (y ∷ rest)) → place_of m x < place_of m y

-- A tick writes at most 2m + 1 events.
abbrev pub FewEvents : ℕ → Told → List Event → Type 0
FewEvents m before es = length es ≤ 2 * m + 1

-- The places of an answer past its events hold a switch.
abbrev pub Padded : Told → Call → Answer → Type 0
Padded before call a = (w : Written) → a ≡ Ok (Ticked w) → w ≡ written (events_of w)

-- Idle then. Where a start event is written, no job runs on its controller, after the events written before it.
abbrev pub IdleThen : Told → List Event → Type 0
IdleThen before es =
    (first rest : List Event) (c r : ℕ) → es ≡ first ++ (Start c r ∷ rest) → (tell_events before first).running c ≡ None

-- No call is sent back because a start found its controller busy.
abbrev pub NeverBusy : Told → Call → Answer → Type 0
NeverBusy before call a = (refusal : Refusal) → a ≡ Err refusal → reason_number refusal.reason ≢ 17

-- In time. A job that still runs after the tick of instant t has t + S < its start instant + D.
abbrev pub InTime : List PlanRow → Told → List Event → Type 0
InTime rows before es =
    (c : ℕ) (j : Job) → (tell_events before es).running c ≡ Some j
    → (row : PlanRow) × (slice_get rows j.row ≡ Some row)
    × (before.ticks + start row (tell_events before es).mode < j.since + row.task.deadline)

-- a job of the row runs on some controller
abbrev pub Runs : Told → ℕ → Type 0
Runs h r = (c : ℕ) × (j : Job) × (h.running c ≡ Some j) × (j.row ≡ r)

-- Accounts. Every start of a row has ended by a report, a strike or a cut, but the one whose job runs; and a row starts at
-- most once in a tick, so that no count passes 2 ^ 40.
pub record Accounts (rows : List PlanRow) (h : Told) : Type 0 where
  pub while_one_runs : (r : ℕ) → r < length rows → Runs h r → h.starts r ≡ h.reports r + h.strikes r + h.cuts r + 1
  pub while_none_runs : (r : ℕ) → r < length rows → (Runs h r → ⊥) → h.starts r ≡ h.reports r + h.strikes r + h.cuts r
  pub once_a_tick : (r : ℕ) → r < length rows → h.starts r ≤ h.ticks
  pub ticks_end : h.ticks ≤ 2 ^ 40

abbrev pub row_of : Option Job → Option ℕ
row_of None = None
row_of (Some j) = Some j.row

abbrev pub counts_of : Told → ℕ → Counts
counts_of h r = record { starts = h.starts r; reports = h.reports r; cuts = h.cuts r + h.strikes r }

abbrev pub standing_of : ℕ → Told → Standing
standing_of m h = record {
  mode = mode_of h.mode;
  opening = h.opening;
  next = h.ticks;
  busy = count_below m (λ c. is_some (h.running c));
  lowest = first_below m (λ c. is_some (h.running c));
}

-- Answers. Each question is answered by what the history before it tells.
pub record Answers (m : ℕ) (rows : List PlanRow) (before : Told) (call : Call) (a : Answer) : Type 0 where
  pub state : (c : ℕ) → call ≡ Controller c → c < m → a ≡ Ok (Shown (row_of (before.running c)))
  pub no_state : (c : ℕ) → call ≡ Controller c → m ≤ c → a ≡ refuse reason.Beyond layer.Bench c
  pub counts : (r : ℕ) → call ≡ Row r → r < length rows → a ≡ Ok (Counted (counts_of before r))
  pub no_counts : (r : ℕ) → call ≡ Row r → length rows ≤ r → a ≡ refuse reason.Beyond layer.Control r
  pub standing : call ≡ Status → a ≡ Ok (Stood (standing_of m before))

-- Commands. Each is accepted, or refused with its reason, by what the history before it tells.
pub record Commands (m : ℕ) (before : Told) (call : Call) (a : Answer) : Type 0 where
  pub tick_over : (places : ℕ) → call ≡ Tick places → before.ticks ≡ 2 ^ 40 → a ≡ refuse reason.Over layer.Control 0
  pub tick_short : (places : ℕ) → call ≡ Tick places → (before.ticks ≢ 2 ^ 40) → places < 2 * m + 1 → a ≡ refuse reason.Places layer.Control 0
  pub tick_taken : (places : ℕ) → call ≡ Tick places → (before.ticks ≢ 2 ^ 40) → 2 * m + 1 ≤ places → (w : Written) × (a ≡ Ok (Ticked w))
  pub end_beyond : (c : ℕ) → (call ≡ Report c) ⊎ (call ≡ Strike c) → m ≤ c → a ≡ refuse reason.Beyond layer.Bench c
  pub end_idle : (c : ℕ) → (call ≡ Report c) ⊎ (call ≡ Strike c) → c < m → before.running c ≡ None → a ≡ refuse reason.Idle layer.Bench c
  pub end_taken : (c : ℕ) → (call ≡ Report c) ⊎ (call ≡ Strike c) → (j : Job) → before.running c ≡ Some j → a ≡ Ok Done
  pub return_everyday : call ≡ Return → before.mode ≡ 0 → a ≡ refuse reason.Everyday layer.Control 0
  pub return_busy : call ≡ Return → (before.mode ≢ 0) → (c : ℕ) (j : Job) → before.running c ≡ Some j → a ≡ refuse reason.SomeBusy layer.Control 0
  pub return_taken : call ≡ Return → (before.mode ≢ 0) → ((c : ℕ) → before.running c ≡ None) → a ≡ Ok Done

-- The bench shows a controller busy with a row exactly when the history has a job of that row running there.
pub record BenchShows (m : ℕ) (h : Told) (shows : List (Option ℕ)) : Type 0 where
  pub count : length shows ≡ m
  pub each : (c : ℕ) → slice_index_or shows c None ≡ row_of (h.running c)

pub record Laws (m : ℕ) (rows : List PlanRow) (h : History) (shows : List (Option ℕ)) : Type 0 where
  pub accounts : (before after : History) → h ≡ before ++ after → Accounts rows (told before)
  pub answers : AtEachCall h (Answers m rows)
  pub commands : AtEachCall h (Commands m)
  pub bench : BenchShows m (told h) shows
  pub never_busy : AtEachCall h NeverBusy
  pub idle_then : AtEachTick h IdleThen
  pub on_time : AtEachTick h (OnTime rows)
  pub in_time : AtEachTick h (InTime rows)
  pub overruns : AtEachTick h (Overruns rows)
  pub in_order : AtEachTick h (InOrder m)
  pub few_events : AtEachTick h (FewEvents m)
  pub padded : AtEachCall h Padded
