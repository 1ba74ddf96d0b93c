-- Every call keeps the state in agreement with the history and is answered by the laws; so every run keeps them.
use Rattle.std.proofs.Common.{◌≡◌, ℕ, ◌+◌, ◌*◌, ◌^◌, ◌<◌, ◌≤◌, Bool, true, false, cond, eqb, ltb, leb, ◌⊎◌, List, [], ◌∷◌, ◌++◌, length, get_or, is_some, Some, None, Ok, Err, Option, Result, sym, refl, ap, ◌∙◌, subst, subst₂, inl, inr, ⊎_elim, arith}
use mathlib.Core.Path.{fun_ext}
use Rattle.std.proofs.lemmas.List.{get_or_past}
use Rattle.std.proofs.lemmas.Bool.{cases_eq, cases_lt, ltb-true, ltb-false, leb-true, leb-false, eqb-true, eqb-false, ne_eqb, cond-false, both_ways}
use Rattle.tasks.specs.declared.fault.BenchFault.TheVariants.{NoController, Idle}
use Rattle.tasks.specs.declared.fault.ControlFault.{ControlFault}
use Rattle.tasks.specs.declared.fault.ControlFault.TheVariants.{NotLoaded, NoRow, Everyday, Busy, Places, Over}
use Rattle.planner.specs.Standing.{Stands}
use Rattle.planner.specs.declared.row.Row.{Row as PlanRow}
use Rattle.benches.specs.Commands.{by_state, end_answer as bench_end, state_answer as bench_state}
use Rattle.tasks.specs.Refusals.{reason_number}
use Rattle.tasks.specs.declared.reason.Layer.TheVariants as layer
use Rattle.tasks.specs.declared.reason.Reason.TheVariants as reason
use Rattle.machine.specs.declared.event.Written.{Written}
use Rattle.machine.specs.declared.entry.Call.{Call}
use Rattle.machine.specs.declared.entry.Call.TheVariants.{Tick, Report, Strike, Return, Controller, Row, Status}
use Rattle.machine.specs.declared.entry.Standing.{Standing}
use Rattle.machine.specs.declared.entry.Reply.{Reply}
use Rattle.machine.specs.declared.entry.Reply.TheVariants.{Ticked, Done, Shown, Counted, Stood}
use Rattle.machine.specs.declared.entry.Entry.{Entry}
use Rattle.machine.specs.Below.{first_below, count_below}
use Rattle.machine.specs.Entries.{Answer, Job, written, events_of, refuse, mode_of, entry}
use Rattle.machine.specs.Machine.{
  State,
  none_yet,
  unless_blocked,
  blocked,
  busy,
  some_busy,
  tick_events,
  end_of_time,
  when_loaded,
  from_bench,
  answered,
  answer,
  after,
  settle,
  run,
  at_end,
  loaded,
}
use Rattle.machine.specs.History.{History, Told, nothing, put, one_more_for, tell, tell_all, told}
use Rattle.machine.specs.Laws.{
  OnTime,
  IdleThen,
  InTime,
  NeverBusy,
  Runs,
  Accounts,
  Answers,
  Commands,
  Overruns,
  InOrder,
  FewEvents,
  Padded,
  Laws,
  row_of,
  counts_of,
  standing_of,
}
use Rattle.machine.specs.Theorems.{EveryRunKeepsTheLaws}
use Rattle.machine.proofs.Basics.{none_some, no_busy, put_same, put_other, first_none, first_some, read_back}
use Rattle.machine.proofs.Books.{
  Placed,
  Booked,
  ends,
  of_row,
  of_same,
  of_other,
  row_there,
  told_dropped,
  book_report,
  book_strike,
  book_return,
  book_loaded,
  shown_is,
}
use Rattle.machine.proofs.Turns.{Timed}
use Rattle.machine.proofs.Sound.{Timely, Agrees, WellTicked, not_blocked, well_ticked}

-- A call that was answered by a, with all that the laws say of it.
pub record Stepped (m : ℕ) (rows : List PlanRow) (s : State) (h : Told) (call : Call) (a : Answer) : Type 0 where
  pub agrees : Agrees m rows (settle s call a) (tell h call a)
  pub answers : Answers m rows h call a
  pub commands : Commands m h call a
  pub never_busy : NeverBusy h call a
  pub idle_then : (w : Written) → a ≡ Ok (Ticked w) → IdleThen h (events_of w)
  pub on_time : (w : Written) → a ≡ Ok (Ticked w) → OnTime rows h (events_of w)
  pub in_time : (w : Written) → a ≡ Ok (Ticked w) → InTime rows h (events_of w)
  pub overruns : (w : Written) → a ≡ Ok (Ticked w) → Overruns rows h (events_of w)
  pub in_order : (w : Written) → a ≡ Ok (Ticked w) → InOrder m h (events_of w)
  pub few_events : (w : Written) → a ≡ Ok (Ticked w) → FewEvents m h (events_of w)
  pub padded : Padded h call a

-- Which question a call is.
abbrev asks : Call → ℕ
asks (Tick places) = 0
asks (Report c) = 0
asks (Strike c) = 0
asks Return = 0
asks (Controller c) = 1
asks (Row r) = 2
asks Status = 3

-- Which command a call is.
abbrev tells : Call → ℕ
tells (Tick places) = 1
tells (Report c) = 2
tells (Strike c) = 3
tells Return = 4
tells (Controller c) = 0
tells (Row r) = 0
tells Status = 0

-- The number of a refusal.
abbrev number_of : Answer → ℕ
number_of (Ok _) = 0
number_of (Err x) = reason_number x.reason

-- 1 where the answer is that of an accepted tick.
abbrev ticks_in : Answer → ℕ
ticks_in (Ok (Ticked es)) = 1
ticks_in (Ok Done) = 0
ticks_in (Ok (Shown x)) = 0
ticks_in (Ok (Counted x)) = 0
ticks_in (Ok (Stood x)) = 0
ticks_in (Err x) = 0

-- The laws on answers say nothing of a command.
no_question : {m : ℕ} {rows : List PlanRow} {h : Told} (call : Call) (a : Answer) → asks call ≡ 0 → Answers m rows h call a
no_question call a z = record {
  state = λ c e l. absurd (omega (arith, ap asks e));
  no_state = λ c e l. absurd (omega (arith, ap asks e));
  counts = λ r e l. absurd (omega (arith, ap asks e));
  no_counts = λ r e l. absurd (omega (arith, ap asks e));
  standing = λ e. absurd (omega (arith, ap asks e));
}

-- The laws on commands say nothing of a question.
no_command : {m : ℕ} {h : Told} (call : Call) (a : Answer) → tells call ≡ 0 → Commands m h call a
no_command call a z = record {
  tick_over = λ p e k. absurd (omega (arith, ap tells e));
  tick_short = λ p e k l. absurd (omega (arith, ap tells e));
  tick_taken = λ p e k l. absurd (omega (arith, ap tells e));
  end_beyond = λ c e l. absurd (no_end c e);
  end_idle = λ c e l k. absurd (no_end c e);
  end_taken = λ c e j k. absurd (no_end c e);
  return_everyday = λ e k. absurd (omega (arith, ap tells e));
  return_busy = λ e k c j is. absurd (omega (arith, ap tells e));
  return_taken = λ e k f. absurd (omega (arith, ap tells e));
}
  where
    no_end : (c : ℕ) → (call ≡ Report c) ⊎ (call ≡ Strike c) → ⊥
    no_end c (inl e) = omega (arith, ap tells e)
    no_end c (inr e) = omega (arith, ap tells e)

-- What the laws on commands ask of a tick.
tick_command
    : {m : ℕ} {h : Told} (places : ℕ) (a : Answer)
    → (h.ticks ≡ 2 ^ 40 → a ≡ refuse reason.Over layer.Control 0)
    → ((h.ticks ≡ 2 ^ 40 → ⊥) → places < 2 * m + 1 → a ≡ refuse reason.Places layer.Control 0)
    → ((h.ticks ≡ 2 ^ 40 → ⊥) → 2 * m + 1 ≤ places → (w : Written) × (a ≡ Ok (Ticked w)))
    → Commands m h (Tick places) a
tick_command {m} {h} places a over short taken = record {
  tick_over = λ p e k. over k;
  tick_short = λ p e k l. short k (omega (arith, same p e));
  tick_taken = λ p e k l. taken k (omega (arith, same p e));
  end_beyond = λ c e l. absurd (no_end c e);
  end_idle = λ c e l k. absurd (no_end c e);
  end_taken = λ c e j k. absurd (no_end c e);
  return_everyday = λ e k. absurd (omega (arith, ap tells e));
  return_busy = λ e k c j is. absurd (omega (arith, ap tells e));
  return_taken = λ e k f. absurd (omega (arith, ap tells e));
}
  where
    same : (p : ℕ) → Tick places ≡ Tick p → places ≡ p
    same p e = cc

    no_end : (c : ℕ) → (Tick places ≡ Report c) ⊎ (Tick places ≡ Strike c) → ⊥
    no_end c (inl e) = omega (arith, ap tells e)
    no_end c (inr e) = omega (arith, ap tells e)

-- The controller whose job a report or a strike ends.
abbrev ended_on : Call → ℕ
ended_on (Tick places) = 0
ended_on (Report c) = c
ended_on (Strike c) = c
ended_on Return = 0
ended_on (Controller c) = 0
ended_on (Row r) = 0
ended_on Status = 0

-- What the laws on commands ask of a report or a strike on c.
end_command
    : {m : ℕ} {h : Told} (call : Call) (c : ℕ) (a : Answer) → ((2 ≤ tells call) × (tells call ≤ 3)) → ended_on call ≡ c
    → (m ≤ c → a ≡ refuse reason.Beyond layer.Bench c) → (c < m → h.running c ≡ None → a ≡ refuse reason.Idle layer.Bench c)
    → ((j : Job) → h.running c ≡ Some j → a ≡ Ok Done)
    → Commands m h call a
end_command {m} {h} call c a ends on beyond idle taken = record {
  tick_over = λ p e k. absurd (omega (arith, ap tells e));
  tick_short = λ p e k l. absurd (omega (arith, ap tells e));
  tick_taken = λ p e k l. absurd (omega (arith, ap tells e));
  end_beyond = λ d e l. subst (λ (i : ℕ). a ≡ refuse reason.Beyond layer.Bench i) (same d e) (beyond (omega (arith, same d e)));
  end_idle = λ d e l k.
      subst (λ (i : ℕ). a ≡ refuse reason.Idle layer.Bench i) (same d e) (idle (omega (arith, same d e)) (ap h.running (same d e) ∙ k));
  end_taken = λ d e j k. taken j (ap h.running (same d e) ∙ k);
  return_everyday = λ e k. absurd (omega (arith, ap tells e));
  return_busy = λ e k c j is. absurd (omega (arith, ap tells e));
  return_taken = λ e k f. absurd (omega (arith, ap tells e));
}
  where
    same : (d : ℕ) → (call ≡ Report d) ⊎ (call ≡ Strike d) → c ≡ d
    same d (inl e) = sym on ∙ ap ended_on e
    same d (inr e) = sym on ∙ ap ended_on e

-- What the laws on commands ask of a return.
return_command
    : {m : ℕ} {h : Told} (a : Answer) → (h.mode ≡ 0 → a ≡ refuse reason.Everyday layer.Control 0)
    → ((h.mode ≡ 0 → ⊥) → (c : ℕ) (j : Job) → h.running c ≡ Some j → a ≡ refuse reason.SomeBusy layer.Control 0)
    → ((h.mode ≡ 0 → ⊥) → ((c : ℕ) → h.running c ≡ None) → a ≡ Ok Done)
    → Commands m h Return a
return_command a everyday full taken = record {
  tick_over = λ p e k. absurd (omega (arith, ap tells e));
  tick_short = λ p e k l. absurd (omega (arith, ap tells e));
  tick_taken = λ p e k l. absurd (omega (arith, ap tells e));
  end_beyond = λ c e l. absurd (no_end c e);
  end_idle = λ c e l k. absurd (no_end c e);
  end_taken = λ c e j k. absurd (no_end c e);
  return_everyday = λ e. everyday;
  return_busy = λ e. full;
  return_taken = λ e. taken;
}
  where
    no_end : (c : ℕ) → (Return ≡ Report c) ⊎ (Return ≡ Strike c) → ⊥
    no_end c (inl e) = omega (arith, ap tells e)
    no_end c (inr e) = omega (arith, ap tells e)

-- Where no tick was accepted, the laws on answers and on commands are all.
plain
    : {m : ℕ} {rows : List PlanRow} {s : State} {h : Told} (call : Call) (a : Answer) → ticks_in a ≡ 0 → (number_of a ≡ 17 → ⊥)
    → Agrees m rows (settle s call a) (tell h call a) → Answers m rows h call a → Commands m h call a
    → Stepped m rows s h call a
plain call a z n ag ans cmd = record {
  agrees = ag;
  answers = ans;
  commands = cmd;
  never_busy = λ refusal e k. n (ap number_of e ∙ k);
  idle_then = λ es e. absurd (omega (arith, ap ticks_in e));
  on_time = λ es e. absurd (omega (arith, ap ticks_in e));
  in_time = λ es e. absurd (omega (arith, ap ticks_in e));
  overruns = λ es e. absurd (omega (arith, ap ticks_in e));
  in_order = λ es e. absurd (omega (arith, ap ticks_in e));
  few_events = λ es e. absurd (omega (arith, ap ticks_in e));
  padded = λ es e. absurd (omega (arith, ap ticks_in e));
}

-- A job that still runs where another has ended is in time.
timely_drop
    : {rows : List PlanRow} {h : Told} → Timely rows h → (c d : ℕ) (j : Job) → put c None h.running d ≡ Some j
    → (p : Placed rows d j.row) → Timed p.row h.mode h.opening h.ticks j.since
timely_drop {h = h} t c d j e p =
    ⊎_elim
    (λ (k : d ≡ c). none_some j (sym (put_same c None h.running d k) ∙ e))
    (λ (n : d ≡ c → ⊥). t.jobs d j (sym (put_other c None h.running d n) ∙ e) p)
    (cases_eq d c)

-- Where the history shows no row on a controller, no job runs there.
no_job : (o : Option Job) → row_of o ≡ None → o ≡ None
no_job None e = refl
no_job (Some j) e = none_some j.row (sym e)

-- It shows a row exactly where a job runs.
some_row : (o : Option Job) → is_some (row_of o) ≡ is_some o
some_row None = refl
some_row (Some j) = refl

-- ---- what an agreement says

module _ {m : ℕ} {rows : List PlanRow} {s : State} {h : Told} (ag : Agrees m rows s h) where
  -- Where the bench shows c busy, a job runs there.
  idle_not : (c r : ℕ) → get_or s.shows c None ≡ Some r → {Y : Type 0} → h.running c ≡ None → Y
  idle_not c r e k = none_some r (sym (ap row_of k) ∙ sym (shown_is ag.booked c) ∙ e)

  -- Where it shows c idle, none does.
  busy_not : (c : ℕ) → get_or s.shows c None ≡ None → {Y : Type 0} → (j : Job) → h.running c ≡ Some j → Y
  busy_not c e j k = none_some j.row (sym e ∙ shown_is ag.booked c ∙ ap row_of k)

  -- Where no controller is busy, no job runs.
  pub each_idle : first_below (length s.shows) (busy s) ≡ None → (c : ℕ) → h.running c ≡ None
  each_idle e c =
      no_job (h.running c) (sym (shown_is ag.booked c) ∙ ⊎_elim inside outside (cases_lt c (length s.shows)))
    where
      inside : c < length s.shows → get_or s.shows c None ≡ None
      inside l = no_busy (get_or s.shows c None) (first_none (length s.shows) (busy s) e c l)

      outside : length s.shows ≤ c → get_or s.shows c None ≡ None
      outside l = get_or_past s.shows c None l

  -- Where the job on c has ended, the others are in time.
  timely_ended : (c : ℕ) (R K : ℕ → ℕ) → Timely rows (told_dropped h c R K h.cuts)
  timely_ended c R K =
      let t = ag.timely in
      record { mode = t.mode; opening = t.opening; ticks = t.ticks; starts = t.starts; jobs = timely_drop t c }

  -- The accounts balance.
  accounts_of : Accounts rows h
  accounts_of = record {
    while_one_runs = while_one;
    while_none_runs = while_none;
    once_a_tick = λ r l.
        let (row, at) = row_there rows r l in
        ag.timely.starts row.controller r (record { row = row; at = at; on = refl });
    ticks_end = ag.timely.ticks;
  }
    where
      b : Booked m rows s h
      b = ag.booked

      while_one : (r : ℕ) → r < length rows → Runs h r → h.starts r ≡ ends h r + 1
      while_one r l (c, j, is, e) =
          let x : of_row r (h.running c) ≡ 1 = ap (of_row r) is ∙ of_same r j e in
          omega (arith, b.account c r (subst (Placed rows c) e (b.own c j is)))

      while_none : (r : ℕ) → r < length rows → (Runs h r → ⊥) → h.starts r ≡ ends h r
      while_none r l n =
          let (row, at) = row_there rows r l in
          let p : Placed rows row.controller r = record { row = row; at = at; on = refl } in
          omega (arith, b.account row.controller r p, idle row.controller (h.running row.controller) refl)
        where
          idle : (c : ℕ) (o : Option Job) → h.running c ≡ o → of_row r (h.running c) ≡ 0
          idle c None e = ap (of_row r) e
          idle c (Some j) e =
              ap (of_row r) e
              ∙ ⊎_elim
              (λ (k : j.row ≡ r). absurd (n (c, j, e, k)))
              (λ (k : j.row ≡ r → ⊥). of_other r j k)
              (cases_eq j.row r)

-- ---- each call

module _ {m : ℕ} {rows : List PlanRow} (one : 1 ≤ m) (st : Stands m rows) {s : State} {h : Told} (ag : Agrees m rows s h) where
  -- A plan is loaded, so the test for that is passed.
  when_loaded_is
      : {X : Type 0} (call : Call) (taken : X → Reply) (r : Result X ControlFault) → Stepped m rows s h call (answered taken r)
      → Stepped m rows s h call (answered taken (when_loaded s r))
  when_loaded_is {X} call taken r =
      subst (λ (x : Result X ControlFault). Stepped m rows s h call (answered taken x))
      (sym (cond-false (eqb s.controllers 0) (Err NotLoaded) r some))
    where
      some : eqb s.controllers 0 ≡ false
      some = ne_eqb s.controllers 0 (λ e. omega (arith, ag.booked.controllers))

  -- What is to be shown of a tick, for any count and any rows.
  abbrev Well : ℕ → List PlanRow → Type 0
  Well m rows =
      (first_below (length s.shows) (blocked s) ≡ None)
      × ((s.next ≡ 2 ^ 40 → ⊥) → WellTicked m rows s h (tick_events s))

  -- A tick is not blocked, and before the end of time it keeps the laws.
  tick_well : Well m rows
  tick_well =
      subst₂ (λ (m : ℕ) (rows : List PlanRow). Stands m rows → Booked m rows s h → Timely rows h → Well m rows)
      ag.booked.shows ag.booked.rows_kept (λ st b t. (not_blocked b st t, well_ticked b st t))
      st ag.booked ag.timely

  -- A tick.
  step_tick : (places : ℕ) → Stepped m rows s h (Tick places) (answer s (Tick places))
  step_tick places =
      when_loaded_is (Tick places) (λ es. Ticked (written es))
      (cond (leb end_of_time s.next) (Err Over)
      (cond (ltb places (2 * length s.shows + 1)) (Err Places)
      (unless_blocked (first_below (length s.shows) (blocked s)) (tick_events s))))
      (go (leb (2 ^ 40) s.next) refl (ltb places (2 * length s.shows + 1)) refl)
    where
      b : Booked m rows s h
      b = ag.booked

      not_end : leb (2 ^ 40) s.next ≡ false → s.next ≡ 2 ^ 40 → ⊥
      not_end e k = omega (arith, leb-false (2 ^ 40) s.next e)

      at_end_so : leb (2 ^ 40) s.next ≡ true → h.ticks ≡ 2 ^ 40
      at_end_so e = omega (arith, leb-true (2 ^ 40) s.next e, b.next, ag.timely.ticks)

      not_over : leb (2 ^ 40) s.next ≡ false → h.ticks ≡ 2 ^ 40 → ⊥
      not_over e k = not_end e (b.next ∙ k)

      accepted
          : leb (2 ^ 40) s.next ≡ false → 2 * m + 1 ≤ places
          → Stepped m rows s h (Tick places) (Ok (Ticked (written (tick_events s))))
      accepted e l =
          let x : Written = written (tick_events s) in
          let w : WellTicked m rows s h (events_of x) =
          subst (WellTicked m rows s h) (sym (read_back (tick_events s))) (tick_well.1 (not_end e)) in
          let same : (y : Written) → ◌≡◌ {A = Answer} (Ok (Ticked x)) (Ok (Ticked y)) → x ≡ y = λ y e. cc in
          record {
            agrees = w.agrees;
            answers = no_question (Tick places) (Ok (Ticked x)) refl;
            commands =
                tick_command places (Ok (Ticked x)) (λ k. absurd (not_over e k)) (λ k z. absurd (omega arith)) (λ k z. (x, refl));
            never_busy = λ refusal e k. absurd (omega (arith, ap ticks_in e));
            idle_then = λ y e. subst (λ (y : Written). IdleThen h (events_of y)) (same y e) w.idle_then;
            on_time = λ y e. subst (λ (y : Written). OnTime rows h (events_of y)) (same y e) w.on_time;
            in_time = λ y e. subst (λ (y : Written). InTime rows h (events_of y)) (same y e) w.in_time;
            overruns = λ y e. subst (λ (y : Written). Overruns rows h (events_of y)) (same y e) w.overruns;
            in_order = λ y e. subst (λ (y : Written). InOrder m h (events_of y)) (same y e) w.in_order;
            few_events = λ y e. subst (λ (y : Written). FewEvents m h (events_of y)) (same y e) w.few_events;
            padded = λ y e.
                subst (λ (y : Written). y ≡ written (events_of y)) (same y e) (ap written (sym (read_back (tick_events s))));
          }

      go
          : (x : Bool) → leb (2 ^ 40) s.next ≡ x → (y : Bool) → ltb places (2 * length s.shows + 1) ≡ y
          → Stepped m rows s h (Tick places)
          (answered (λ es. Ticked (written es)) (cond x (Err Over)
          (cond y (Err Places) (unless_blocked (first_below (length s.shows) (blocked s)) (tick_events s)))))
      go true e y k =
          plain (Tick places) (refuse reason.Over layer.Control 0) refl (λ z. omega arith) ag (no_question (Tick places) (refuse reason.Over layer.Control 0) refl)
          (tick_command places (refuse reason.Over layer.Control 0) (λ z. refl)
          (λ n l. absurd (n (at_end_so e)))
          (λ n l. absurd (n (at_end_so e))))
      go false e true k =
          plain (Tick places) (refuse reason.Places layer.Control 0) refl (λ z. omega arith) ag (no_question (Tick places) (refuse reason.Places layer.Control 0) refl)
          (tick_command places (refuse reason.Places layer.Control 0) (λ z. absurd (not_over e z)) (λ n l. refl)
          (λ n l. absurd (omega (arith, ltb-true places (2 * length s.shows + 1) k, b.shows))))
      go false e false k =
          subst
          (λ (o : Option ℕ).
          Stepped m rows s h (Tick places) (answered (λ es. Ticked (written es)) (unless_blocked o (tick_events s))))
          (sym tick_well.0)
          (accepted e (omega (arith, ltb-false places (2 * length s.shows + 1) k, b.shows)))

  -- A report or a strike: the bench tells whether it is taken.
  end_step
      : (call : Call) (c : ℕ) → asks call ≡ 0 → ((2 ≤ tells call) × (tells call ≤ 3)) → ended_on call ≡ c
      → ((r : ℕ) → c < m → get_or s.shows c None ≡ Some r → Agrees m rows (settle s call (Ok Done)) (tell h call (Ok Done)))
      → Stepped m rows s h call (answered (λ _. Done) (when_loaded s (from_bench (bench_end s.shows c))))
  end_step call c ask kind on taken =
      when_loaded_is call (λ _. Done) (from_bench (bench_end s.shows c))
      (go (ltb c (length s.shows)) refl (get_or s.shows c None) refl)
    where
      b : Booked m rows s h
      b = ag.booked

      go
          : (x : Bool) → ltb c (length s.shows) ≡ x → (o : Option ℕ) → get_or s.shows c None ≡ o
          → Stepped m rows s h call
          (answered {X = Unit {0}} (λ _. Done) (from_bench (cond x (by_state o (Err (Idle c)) (Ok tt)) (Err (NoController c)))))
      go false e o k =
          plain call (refuse reason.Beyond layer.Bench c) refl (λ z. omega arith) ag (no_question call (refuse reason.Beyond layer.Bench c) ask)
          (end_command call c (refuse reason.Beyond layer.Bench c) kind on (λ l. refl)
          (λ l z. absurd (omega (arith, ltb-false c (length s.shows) e, b.shows)))
          (λ j z. busy_not ag c (get_or_past s.shows c None (ltb-false c (length s.shows) e)) j z))
      go true e None k =
          plain call (refuse reason.Idle layer.Bench c) refl (λ z. omega arith) ag (no_question call (refuse reason.Idle layer.Bench c) ask)
          (end_command call c (refuse reason.Idle layer.Bench c) kind on
          (λ l. absurd (omega (arith, ltb-true c (length s.shows) e, b.shows))) (λ l z. refl) (λ j z. busy_not ag c k j z))
      go true e (Some r) k =
          plain call (Ok Done) refl (λ z. omega arith) (taken r (omega (arith, ltb-true c (length s.shows) e, b.shows)) k)
          (no_question call (Ok Done) ask)
          (end_command call c (Ok Done) kind on
          (λ l. absurd (omega (arith, ltb-true c (length s.shows) e, b.shows))) (λ l z. idle_not ag c r k z) (λ j z. refl))

  step_report : (c : ℕ) → Stepped m rows s h (Report c) (answer s (Report c))
  step_report c =
      end_step (Report c) c refl (omega arith, omega arith) refl
      (λ r l e. record {
        booked = book_report ag.booked c r l e;
        timely = timely_ended ag c (one_more_for (h.running c) h.reports) h.strikes;
      })

  step_strike : (c : ℕ) → Stepped m rows s h (Strike c) (answer s (Strike c))
  step_strike c =
      end_step (Strike c) c refl (omega arith, omega arith) refl
      (λ r l e. record {
        booked = book_strike ag.booked c r l e;
        timely = timely_ended ag c h.reports (one_more_for (h.running c) h.strikes);
      })

  -- A return.
  step_return : Stepped m rows s h Return (answer s Return)
  step_return =
      when_loaded_is Return (λ _. Done) (cond (eqb s.mode 0) (Err Everyday) (cond (some_busy s) (Err Busy) (Ok tt)))
      (go (eqb s.mode 0) refl (first_below (length s.shows) (busy s)) refl)
    where
      b : Booked m rows s h
      b = ag.booked

      everyday : eqb s.mode 0 ≡ true → (h.mode ≡ 0 → ⊥) → ⊥
      everyday e n = n (sym b.mode ∙ eqb-true s.mode 0 e)

      critical : eqb s.mode 0 ≡ false → h.mode ≡ 0 → ⊥
      critical e z = eqb-false s.mode 0 e (b.mode ∙ z)

      go
          : (x : Bool) → eqb s.mode 0 ≡ x → (o : Option ℕ) → first_below (length s.shows) (busy s) ≡ o
          → Stepped m rows s h Return
          (answered {X = Unit {0}} (λ _. Done) (cond x (Err Everyday) (cond (is_some o) (Err Busy) (Ok tt))))
      go true k o e =
          plain Return (refuse reason.Everyday layer.Control 0) refl (λ z. omega arith) ag (no_question Return (refuse reason.Everyday layer.Control 0) refl)
          (return_command (refuse reason.Everyday layer.Control 0) (λ z. refl) (λ n c j is. absurd (everyday k n)) (λ n f. absurd (everyday k n)))
      go false k (Some c) e =
          plain Return (refuse reason.SomeBusy layer.Control 0) refl (λ z. omega arith) ag (no_question Return (refuse reason.SomeBusy layer.Control 0) refl)
          (return_command (refuse reason.SomeBusy layer.Control 0) (λ z. absurd (critical k z)) (λ n c j is. refl)
          (λ n f.
          absurd (both_ways (busy s c) (ap is_some (shown_is b c ∙ ap row_of (f c)))
          (first_some (length s.shows) (busy s) c e).1)))
      go false k None e =
          plain Return (Ok Done) refl (λ z. omega arith)
          (record {
            booked = book_return b;
            timely = record {
              mode = omega arith;
              opening = omega arith;
              ticks = ag.timely.ticks;
              starts = ag.timely.starts;
              jobs = λ c j k p. none_some j (sym (each_idle ag e c) ∙ k);
            };
          })
          (no_question Return (Ok Done) refl)
          (return_command (Ok Done) (λ z. absurd (critical k z)) (λ n c j is. none_some j (sym (each_idle ag e c) ∙ is)) (λ n f. refl))

  -- The question what a controller does.
  step_controller : (c : ℕ) → Stepped m rows s h (Controller c) (answer s (Controller c))
  step_controller c =
      when_loaded_is (Controller c) Shown (from_bench (bench_state s.shows c)) (go (ltb c (length s.shows)) refl)
    where
      same : (d : ℕ) → Controller c ≡ Controller d → c ≡ d
      same d e = cc

      go
          : (x : Bool) → ltb c (length s.shows) ≡ x
          → Stepped m rows s h (Controller c)
          (answered Shown (from_bench (cond x (Ok (get_or s.shows c None)) (Err (NoController c)))))
      go true e =
          plain (Controller c) (Ok (Shown (get_or s.shows c None))) refl (λ z. omega arith) ag
          (record {
            state = λ d k l. ap (λ x. Ok (Shown x)) (shown_is ag.booked c ∙ ap (λ (i : ℕ). row_of (h.running i)) (same d k));
            no_state = λ d k l. absurd (omega (arith, same d k, ltb-true c (length s.shows) e, ag.booked.shows));
            counts = λ r k l. absurd (omega (arith, ap asks k));
            no_counts = λ r k l. absurd (omega (arith, ap asks k));
            standing = λ k. absurd (omega (arith, ap asks k));
          })
          (no_command (Controller c) (Ok (Shown (get_or s.shows c None))) refl)
      go false e =
          plain (Controller c) (refuse reason.Beyond layer.Bench c) refl (λ z. omega arith) ag
          (record {
            state = λ d k l. absurd (omega (arith, same d k, ltb-false c (length s.shows) e, ag.booked.shows));
            no_state = λ d k l. ap (refuse reason.Beyond layer.Bench) (same d k);
            counts = λ r k l. absurd (omega (arith, ap asks k));
            no_counts = λ r k l. absurd (omega (arith, ap asks k));
            standing = λ k. absurd (omega (arith, ap asks k));
          })
          (no_command (Controller c) (refuse reason.Beyond layer.Bench c) refl)

  -- The question for the counts of a row.
  step_row : (r : ℕ) → Stepped m rows s h (Row r) (answer s (Row r))
  step_row r =
      when_loaded_is (Row r) Counted (cond (ltb r (length s.rows)) (Ok (get_or s.counts r none_yet)) (Err (NoRow r)))
      (go (ltb r (length s.rows)) refl)
    where
      same : (q : ℕ) → Row r ≡ Row q → r ≡ q
      same q e = cc

      many : length s.rows ≡ length rows
      many = ap length ag.booked.rows_kept

      go
          : (x : Bool) → ltb r (length s.rows) ≡ x
          → Stepped m rows s h (Row r) (answered Counted (cond x (Ok (get_or s.counts r none_yet)) (Err (NoRow r))))
      go true e =
          plain (Row r) (Ok (Counted (get_or s.counts r none_yet))) refl (λ z. omega arith) ag
          (record {
            state = λ d k l. absurd (omega (arith, ap asks k));
            no_state = λ d k l. absurd (omega (arith, ap asks k));
            counts = λ q k l.
                ap (λ x. Ok (Counted x)) (ag.booked.tallies r (omega (arith, ltb-true r (length s.rows) e, many))
                ∙ ap (counts_of h) (same q k));
            no_counts = λ q k l. absurd (omega (arith, same q k, ltb-true r (length s.rows) e, many));
            standing = λ k. absurd (omega (arith, ap asks k));
          })
          (no_command (Row r) (Ok (Counted (get_or s.counts r none_yet))) refl)
      go false e =
          plain (Row r) (refuse reason.Beyond layer.Control r) refl (λ z. omega arith) ag
          (record {
            state = λ d k l. absurd (omega (arith, ap asks k));
            no_state = λ d k l. absurd (omega (arith, ap asks k));
            counts = λ q k l. absurd (omega (arith, same q k, ltb-false r (length s.rows) e, many));
            no_counts = λ q k l. ap (refuse reason.Beyond layer.Control) (same q k);
            standing = λ k. absurd (omega (arith, ap asks k));
          })
          (no_command (Row r) (refuse reason.Beyond layer.Control r) refl)

  -- The question how things stand.
  step_status : Stepped m rows s h Status (answer s Status)
  step_status =
      when_loaded_is Status Stood (Ok now)
      (plain Status (Ok (Stood now)) refl (λ z. omega arith) ag
      (record {
        state = λ d k l. absurd (omega (arith, ap asks k));
        no_state = λ d k l. absurd (omega (arith, ap asks k));
        counts = λ q k l. absurd (omega (arith, ap asks k));
        no_counts = λ q k l. absurd (omega (arith, ap asks k));
        standing = λ k. ap (λ x. Ok (Stood x)) whole;
      })
      (no_command Status (Ok (Stood now)) refl))
    where
      b : Booked m rows s h
      b = ag.booked

      now : Standing
      now = record {
        mode = mode_of s.mode;
        opening = s.opening;
        next = s.next;
        busy = count_below (length s.shows) (busy s);
        lowest = first_below (length s.shows) (busy s);
      }

      busy_is : busy s ≡ (λ c. is_some (h.running c))
      busy_is = fun_ext (λ c. ap is_some (shown_is b c) ∙ some_row (h.running c))

      whole : now ≡ standing_of m h
      whole = λ i. record {
        mode = mode_of (b.mode i);
        opening = b.opening i;
        next = b.next i;
        busy = count_below (b.shows i) (busy_is i);
        lowest = first_below (b.shows i) (busy_is i);
      }

  -- Every call is answered by the laws, and leaves an agreement.
  pub step : (call : Call) → Stepped m rows s h call (answer s call)
  step (Tick places) = step_tick places
  step (Report c) = step_report c
  step (Strike c) = step_strike c
  step Return = step_return
  step (Controller c) = step_controller c
  step (Row r) = step_row r
  step Status = step_status

-- ---- whole runs

-- A plan that stands, just loaded, agrees with the empty history.
pub agrees_loaded : {m : ℕ} {rows : List PlanRow} → Stands m rows → Agrees m rows (loaded m rows) nothing
agrees_loaded {m} {rows} st = record {
  booked = book_loaded m rows st.few st.short;
  timely = record {
    mode = omega arith;
    opening = omega arith;
    ticks = omega arith;
    starts = λ c r p. omega arith;
    jobs = λ c j e p. none_some j e;
  };
}

-- Entries of two equal histories.
empty_not : {Y : Type 0} (x : Entry) (xs : History) → ◌≡◌ {A = History} [] (x ∷ xs) → Y
empty_not x xs e = let z : ◌≡◌ {A = ℕ} 0 1 = cc in absurd (omega arith)

same_head : (x y : Entry) (xs ys : History) → ◌≡◌ {A = History} (x ∷ xs) (y ∷ ys) → x ≡ y
same_head x y xs ys e = cc

same_tail : (x y : Entry) (xs ys : History) → ◌≡◌ {A = History} (x ∷ xs) (y ∷ ys) → xs ≡ ys
same_tail x y xs ys e = cc

module _ {m : ℕ} {rows : List PlanRow} (one : 1 ≤ m) (st : Stands m rows) where
  -- After each front of a run's history the machine is in a state that agrees with it, from which the rest runs.
  front
      : (before : History) (calls : List Call) (s : State) (h : Told) → Agrees m rows s h → (rest : History)
      → run s calls ≡ before ++ rest
      → (t : State) × (more : List Call) × Agrees m rows t (tell_all h before) × (run t more ≡ rest)
  front [] calls s h ag rest e = (s, calls, ag, e)
  front (x ∷ before) [] s h ag rest e = empty_not x (before ++ rest) e
  front (x ∷ before) (call ∷ calls) s h ag rest e =
      let head : entry call (answer s call) ≡ x =
      same_head (entry call (answer s call)) x (run (after s call) calls) (before ++ rest) e in
      let tail : run (after s call) calls ≡ before ++ rest =
      same_tail (entry call (answer s call)) x (run (after s call) calls) (before ++ rest) e in
      let ag' : Agrees m rows (after s call) (tell h x.call x.answer) =
      subst (λ (y : Entry). Agrees m rows (after s call) (tell h y.call y.answer)) head (step one st ag call).agrees in
      front before calls (after s call) (tell h x.call x.answer) ag' rest tail

  -- Every call of a run was answered in such a state.
  at_call
      : (before : History) (calls : List Call) (after : History) (call : Call) (a : Answer)
      → run (loaded m rows) calls ≡ before ++ (entry call a ∷ after)
      → (t : State) × Stepped m rows t (told before) call a
  at_call before calls later call a e =
      go (front before calls (loaded m rows) nothing (agrees_loaded st) (entry call a ∷ later) e)
    where
      go
          : (t : State) × (more : List Call) × Agrees m rows t (told before) × (run t more ≡ entry call a ∷ later)
          → (t : State) × Stepped m rows t (told before) call a
      go (t, more, ag, k) = (t, on more k)
        where
          on : (more : List Call) → run t more ≡ entry call a ∷ later → Stepped m rows t (told before) call a
          on [] k = empty_not (entry call a) later k
          on (call' ∷ more) k =
              let head : entry call' (answer t call') ≡ entry call a =
              same_head (entry call' (answer t call')) (entry call a) (run (after t call') more) later k in
              subst (λ (y : Entry). Stepped m rows t (told before) y.call y.answer) head (step one st ag call')

  -- The state that a run leaves agrees with its whole history.
  pub agrees_end
      : (calls : List Call) (s : State) (h : Told) → Agrees m rows s h → Agrees m rows (at_end s calls) (tell_all h (run s calls))
  agrees_end [] s h ag = ag
  agrees_end (call ∷ calls) s h ag =
      agrees_end calls (after s call) (tell h call (answer s call)) (step one st ag call).agrees

  -- Every run keeps the laws.
  laws : (calls : List Call) → Laws m rows (run (loaded m rows) calls) (at_end (loaded m rows) calls).shows
  laws calls = record {
    accounts = λ before rest e.
        let (t, more, ag, k) = front before calls (loaded m rows) nothing (agrees_loaded st) rest e in accounts_of ag;
    answers = λ before later call a e. (at_call before calls later call a e).1.answers;
    bench =
        let b = (agrees_end calls (loaded m rows) nothing (agrees_loaded st)).booked in
        record { count = b.shows; each = shown_is b };
    commands = λ before later call a e. (at_call before calls later call a e).1.commands;
    never_busy = λ before later call a e. (at_call before calls later call a e).1.never_busy;
    idle_then = λ before later call a e. (at_call before calls later call a e).1.idle_then;
    on_time = λ before later call a e. (at_call before calls later call a e).1.on_time;
    in_time = λ before later call a e. (at_call before calls later call a e).1.in_time;
    overruns = λ before later call a e. (at_call before calls later call a e).1.overruns;
    in_order = λ before later call a e. (at_call before calls later call a e).1.in_order;
    few_events = λ before later call a e. (at_call before calls later call a e).1.few_events;
    padded = λ before later call a e. (at_call before calls later call a e).1.padded;
  }

pub every_run_keeps_the_laws : EveryRunKeepsTheLaws
every_run_keeps_the_laws m rows one st calls = laws one st calls
