-- A state agrees with a history: the books do, and every running job was started at a quoted instant of the present opening
-- and is within its budget. A tick keeps that, is never blocked, and its events keep the laws.
use Rattle.std.proofs.Common.{◌≡◌, ℕ, zero, suc, ◌+◌, ◌-◌, ◌^◌, ◌<◌, ◌≤◌, Bool, true, false, cond, ◌&&◌, ◌||◌, eqb, leb, ◌⊎◌, List, ◌++◌, length, get_or, is_some, Some, None, Option, sym, refl, ap, ◌∙◌, subst, ap₂, subst₂, inl, inr, ⊎_elim, arith}
use mathlib.Core.Path.{subst₃}
use Rattle.std.proofs.lemmas.List.{get_or_past}
use Rattle.std.proofs.lemmas.Bool.{cases_lt, cond-true, cond-false, eqb-true, eq-eqb, leb-true, leb-false, le-leb, and_parts, and_from, and_right, or_cases, or_left, or_right, both_ways}
use Rattle.std.specs.List.{slice_get}
use Rattle.tasks.specs.Tasks.{budget}
use Rattle.planner.specs.Rows.{start}
use Rattle.planner.specs.Standing.{Stands}
use Rattle.planner.specs.declared.row.Row.{Row as PlanRow}
use Rattle.machine.specs.declared.event.Event.{Event}
use Rattle.machine.specs.declared.event.Event.TheVariants.{Switch, Cut, Start}
use Rattle.machine.specs.Below.{first_below, each_below}
use Rattle.machine.specs.Plans.{Due}
use Rattle.machine.specs.Entries.{Job}
use Rattle.machine.specs.Machine.{
  State,
  job,
  job_of,
  budget_at,
  spent,
  spent_on,
  switches,
  mode_then,
  opening_then,
  cut_on,
  left_on,
  due_at,
  due_on,
  blocked,
  switch_event,
  cut_event,
  start_event,
  tick_events,
  acts,
  passed,
}
use Rattle.machine.specs.History.{Told, tell_events, tell_tick, times}
use Rattle.machine.specs.Laws.{OnTime, IdleThen, InTime, Spent, Overruns, InOrder, FewEvents}
use Rattle.machine.proofs.Basics.{none_some, some_same, first_some, none_first, some_first, tell_append, times_append}
use Rattle.machine.proofs.Plans.{period_room}
use Rattle.machine.proofs.Books.{Placed, Booked, Valids, valids_append, valid_start, book_acts, book_passed, row_below}
use Rattle.machine.proofs.Turns.{
  turn_quoted,
  quoted_turn,
  Called,
  called,
  calls,
  only_one,
  called_within,
  Timed,
  due_alone,
}
use Rattle.machine.proofs.Ticks.{
  Many,
  started,
  many_cuts,
  many_starts,
  Switched,
  switched,
  times_none,
  times_at,
  times_most,
  times_some,
  switch_switch,
  switch_cut,
  switch_start,
  cut_switch,
  cut_start,
  cut_elsewhere,
  cut_here,
  cut_most,
  cut_some,
  start_switch,
  start_cut,
  start_elsewhere,
  start_here,
  start_most,
  start_some,
  Span,
  span_append,
  span_each,
  span_switch,
  span_cut,
  span_start,
  span_length,
  span_two,
}

-- The numbers of a history stay in their bounds, and each running job is in time.
pub record Timely (rows : List PlanRow) (h : Told) : Type 0 where
  pub mode : h.mode ≤ 1
  pub opening : h.opening ≤ h.ticks
  pub ticks : h.ticks ≤ 2 ^ 40
  pub starts : (c r : ℕ) → Placed rows c r → h.starts r ≤ h.ticks
  pub jobs
      : (c : ℕ) (j : Job) → h.running c ≡ Some j → (p : Placed rows c j.row)
      → Timed p.row h.mode h.opening h.ticks j.since

-- The state agrees with what is told.
pub record Agrees (m : ℕ) (rows : List PlanRow) (s : State) (h : Told) : Type 0 where
  pub booked : Booked m rows s h
  pub timely : Timely rows h

-- A tick with these events keeps that, and the laws.
pub record WellTicked (m : ℕ) (rows : List PlanRow) (s : State) (h : Told) (es : List Event) : Type 0 where
  pub agrees : Agrees m rows (passed (acts s es)) (tell_tick (tell_events h es))
  pub idle_then : IdleThen h es
  pub on_time : OnTime rows h es
  pub in_time : InTime rows h es
  pub overruns : Overruns rows h es
  pub in_order : InOrder m h es
  pub few_events : FewEvents m h es

-- A number has one row.
same_row : {rows : List PlanRow} {c d r q : ℕ} (p : Placed rows c r) (x : Placed rows d q) → r ≡ q → p.row ≡ x.row
same_row {rows} p x e = some_same p.row x.row (sym p.at ∙ ap (slice_get rows) e ∙ x.at)

-- What is left was there, and neither test told against it.
left_facts
    : (x y : Bool) (o : Option Job) (j : Job) → cond (x || y) None o ≡ Some j → (o ≡ Some j) × (x ≡ false) × (y ≡ false)
left_facts true y o j e = none_some j e
left_facts false true o j e = none_some j e
left_facts false false o j e = (e, refl, refl)

below_end : (n e : ℕ) → n ≤ e → (n ≡ e → ⊥) → n + 1 ≤ e
below_end n e l k = omega arith

some_is : {X : Type 0} (o : Option X) → is_some o ≡ true → (x : X) × (o ≡ Some x)
some_is None e = absurd (both_ways true (sym e) refl)
some_is (Some x) e = (x, refl)

one_is : (x : Bool) → cond {A = ℕ} x 1 0 ≡ 1 → x ≡ true
one_is true e = refl
one_is false e = absurd (omega arith)

-- A cut counts no start.
cut_starts_one : (h : Told) (r c : ℕ) (k : Bool) (j : Option Job) → (tell_events h (cut_event c k j)).starts r ≡ h.starts r
cut_starts_one h r c true None = refl
cut_starts_one h r c false None = refl
cut_starts_one h r c false (Some j) = refl
cut_starts_one h r c true (Some j) = refl

cut_starts
    : (h : Told) (K : ℕ → Bool) (J : ℕ → Option Job) (r n : ℕ)
    → (tell_events h (each_below n (λ c. cut_event c (K c) (J c)))).starts r ≡ h.starts r
cut_starts h K J r zero = refl
cut_starts h K J r (suc n) =
    let xs : List Event = each_below n (λ c. cut_event c (K c) (J c)) in
    ap (λ (g : Told). g.starts r) (tell_append h xs (cut_event n (K n) (J n)))
    ∙ cut_starts_one (tell_events h xs) r n (K n) (J n)
    ∙ cut_starts h K J r n

module _ {s : State} {h : Told} (b : Booked (length s.shows) s.rows s h) (st : Stands (length s.shows) s.rows) (ti : Timely s.rows h) where
  timed_now
      : (c : ℕ) (j : Job) → job s c ≡ Some j → (p : Placed s.rows c j.row)
      → Timed p.row s.mode s.opening s.next j.since
  timed_now c j e p =
      subst₃ (λ (x y z : ℕ). Timed p.row x y z j.since) (sym b.mode) (sym b.opening) (sym b.next)
      (ti.jobs c j (sym (b.jobs c) ∙ e) p)

  -- A job that is not spent has instants of its budget left.
  unspent
      : (c : ℕ) (j : Job) → job s c ≡ Some j → spent_on s c ≡ false → (p : Placed s.rows c j.row)
      → s.next < j.since + budget p.row.task s.mode
  unspent c j e n p =
      let x : spent s.rows s.mode s.next (Some j) ≡ false = ap (spent s.rows s.mode s.next) (sym e) ∙ n in
      let y : leb (budget p.row.task s.mode) (s.next - j.since) ≡ false =
      ap (λ (o : Option PlanRow). leb (budget_at o s.mode) (s.next - j.since)) (sym p.at) ∙ x in
      omega (arith, leb-false (budget p.row.task s.mode) (s.next - j.since) y)

  -- A job on c is of a row on c.
  placed_job : (c : ℕ) (j : Job) → job s c ≡ Some j → Placed s.rows c j.row
  placed_job c j e = b.own c j (sym (b.jobs c) ∙ e)

  -- The mode in force opened by now.
  opening_before : opening_then s ≤ s.next
  opening_before = go (switches s)
    where
      go : (x : Bool) → cond x s.next s.opening ≤ s.next
      go true = omega arith
      go false = omega (arith, ti.opening, b.opening, b.next)

  mode_small : mode_then s ≤ 1
  mode_small = go (switches s)
    where
      go : (x : Bool) → cond x 1 s.mode ≤ 1
      go true = omega arith
      go false = omega (arith, ti.mode, b.mode)

  -- The row that is due is one whose turn comes.
  due_called : (c r : ℕ) → due_on s c ≡ Some r → Called s.rows (mode_then s) (s.next - opening_then s) c r
  due_called c r e =
      called s.rows (mode_then s) (s.next - opening_then s) c r
      (first_some (length s.rows) (λ r. due_at (slice_get s.rows r) (mode_then s) (s.next - opening_then s) c) r e).1

  -- The row whose turn comes is the one that is due.
  called_due : (c r : ℕ) → Called s.rows (mode_then s) (s.next - opening_then s) c r → due_on s c ≡ Some r
  called_due c r x =
      let test : ℕ → Bool = λ r. due_at (slice_get s.rows r) (mode_then s) (s.next - opening_then s) c in
      let (k, e) =
      some_first (length s.rows) test r (row_below s.rows r x.place.row x.place.at)
      (calls s.rows (mode_then s) (s.next - opening_then s) c r x) in
      let y = due_called c k e in
      e
      ∙ ap Some (only_one st (mode_then s) (s.next - opening_then s) c k r
      (called_within st (mode_then s) (s.next - opening_then s) c k y)
      (called_within st (mode_then s) (s.next - opening_then s) c r x))

  -- A controller with a due row is idle after the cuts.
  free : (c r : ℕ) → due_on s c ≡ Some r → left_on s c ≡ None
  free c r e = go (left_on s c) refl
    where
      go : (o : Option Job) → left_on s c ≡ o → left_on s c ≡ None
      go None k = k
      go (Some j) k =
          let (is, stays, n) = left_facts (switches s) (spent_on s c) (job s c) j k in
          let p = placed_job c j is in
          let x : Called s.rows s.mode (s.next - s.opening) c r =
          subst₂ (λ (y z : ℕ). Called s.rows y (s.next - z) c r)
          (cond-false (switches s) 1 s.mode stays) (cond-false (switches s) s.next s.opening stays)
          (due_called c r e) in
          absurd (due_alone st s.mode s.opening s.next c r x j.row j.since p (timed_now c j is p)
          (unspent c j is n p))

  -- So no start finds its controller busy.
  pub not_blocked : first_below (length s.shows) (blocked s) ≡ None
  not_blocked = none_first (length s.shows) (blocked s) (λ c l. go c (due_on s c) refl)
    where
      go : (c : ℕ) (o : Option ℕ) → due_on s c ≡ o → (is_some (due_on s c) && is_some (left_on s c)) ≡ false
      go c None e = ap (λ (o : Option ℕ). is_some o && is_some (left_on s c)) e
      go c (Some r) e = and_right (is_some (due_on s c)) (is_some (left_on s c)) (ap is_some (free c r e))

  -- ---- the events

  -- The cuts, and the starts.
  abbrev cuts : List Event
  cuts = each_below (length s.shows) (λ c. cut_event c (cut_on s c) (job s c))

  abbrev begins : List Event
  begins = each_below (length s.shows) (λ c. start_event c (due_on s c))

  -- What is told after the switch.
  abbrev h₁ : Told
  h₁ = tell_events h (switch_event (switches s))

  sw : Switched h (switch_event (switches s)) (switches s)
  sw = switched h (switches s)

  the_cuts : Many (length s.shows) s.rows h₁ cuts (length s.shows) (left_on s)
  the_cuts = many_cuts h₁ (cut_on s) (job s) (λ c. sw.running c ∙ sym (b.jobs c)) (length s.shows) (omega arith)

  -- What is told after the cuts too.
  abbrev h₂ : Told
  h₂ = tell_events h₁ cuts

  starts_then : (c r : ℕ) → Placed s.rows c r → h₂.starts r ≡ h.starts r
  starts_then c r p = cut_starts h₁ (cut_on s) (job s) r (length s.shows) ∙ sw.starts r

  the_starts
      : Many (length s.shows) s.rows h₂ begins (length s.shows) (λ c. started (due_on s c) h₂.ticks (left_on s c))
  the_starts =
      many_starts h₂ (due_on s) (left_on s) (λ c l. the_cuts.below c l)
      (λ c r e.
      let p = (due_called c r e).place in (free c r e, p, omega (arith, starts_then c r p, ti.starts c r p, ti.ticks)))
      (length s.shows) (omega arith)

  -- Each event is written where it may be.
  valid : Valids (length s.shows) s.rows h (tick_events s)
  valid =
      valids_append (length s.shows) s.rows h (switch_event (switches s)) (cuts ++ begins)
      (sw.valid (length s.shows) s.rows)
      (valids_append (length s.shows) s.rows h₁ cuts begins the_cuts.valid the_starts.valid)

  -- What is told after all events.
  abbrev h₃ : Told
  h₃ = tell_events h (tick_events s)

  whole : h₃ ≡ tell_events h₂ begins
  whole = tell_append h (switch_event (switches s)) (cuts ++ begins) ∙ tell_append h₁ cuts begins

  ticks_then : h₂.ticks ≡ s.next
  ticks_then = the_cuts.ticks ∙ sw.ticks ∙ sym b.next

  ticks_is : h₃.ticks ≡ s.next
  ticks_is = ap (λ (g : Told). g.ticks) whole ∙ the_starts.ticks ∙ ticks_then

  mode_is : h₃.mode ≡ mode_then s
  mode_is =
      ap (λ (g : Told). g.mode) whole ∙ the_starts.mode ∙ the_cuts.mode ∙ sw.mode
      ∙ ap (λ (x : ℕ). cond (switches s) 1 x) (sym b.mode)

  opening_is : h₃.opening ≡ opening_then s
  opening_is =
      ap (λ (g : Told). g.opening) whole ∙ the_starts.opening ∙ the_cuts.opening ∙ sw.opening
      ∙ ap₂ (λ (x y : ℕ). cond (switches s) x y) (sym b.next) (sym b.opening)

  -- What runs on each controller after the tick.
  runs_below : (c : ℕ) → c < length s.shows → h₃.running c ≡ started (due_on s c) s.next (left_on s c)
  runs_below c l =
      ap (λ (g : Told). g.running c) whole ∙ the_starts.below c l
      ∙ ap (λ (t : ℕ). started (due_on s c) t (left_on s c)) ticks_then

  runs_above : (c : ℕ) → length s.shows ≤ c → h₃.running c ≡ None
  runs_above c l =
      ap (λ (g : Told). g.running c) whole ∙ the_starts.above c l ∙ the_cuts.above c l ∙ sw.running c ∙ sym (b.jobs c)
      ∙ ap (λ (o : Option ℕ). job_of o (get_or s.since c 0)) (get_or_past s.shows c None l)

  -- Every job that runs after the tick is in time at the next instant.
  timed_then
      : (c : ℕ) (j : Job) → h₃.running c ≡ Some j → (p : Placed s.rows c j.row)
      → Timed p.row (mode_then s) (opening_then s) (s.next + 1) j.since
  timed_then c j e p =
      ⊎_elim inside (λ (l : length s.shows ≤ c). none_some j (sym (runs_above c l) ∙ e)) (cases_lt c (length s.shows))
    where
      go
          : (o : Option ℕ) → due_on s c ≡ o → started o s.next (left_on s c) ≡ Some j
          → Timed p.row (mode_then s) (opening_then s) (s.next + 1) j.since
      go None d k =
          let (is, stays, n) = left_facts (switches s) (spent_on s c) (job s c) j k in
          let t = timed_now c j is p in
          let u = unspent c j is n p in
          let x : Timed p.row s.mode s.opening (s.next + 1) j.since =
          record { belongs = t.belongs; quoted = t.quoted; past = omega (arith, t.past); within = omega arith } in
          subst₂ (λ (y z : ℕ). Timed p.row y z (s.next + 1) j.since)
          (sym (cond-false (switches s) 1 s.mode stays)) (sym (cond-false (switches s) s.next s.opening stays)) x
      go (Some r) d k =
          let new : Job = record { row = r; since = s.next } in
          let is : new ≡ j = some_same new j k in
          let q = due_called c r d in
          let row_is : q.place.row ≡ p.row = same_row q.place p (ap (λ (i : Job). i.row) is) in
          let one = (st.sound r q.place.row q.place.at).range.some (mode_then s) q.belongs in
          let x : Timed q.place.row (mode_then s) (opening_then s) (s.next + 1) s.next = record {
            belongs = q.belongs;
            quoted = turn_quoted q.place.row (mode_then s) (opening_then s) s.next opening_before q.turn;
            past = omega arith;
            within = omega arith;
          } in
          subst₂ (λ (row : PlanRow) (t : ℕ). Timed row (mode_then s) (opening_then s) (s.next + 1) t) row_is
          (ap (λ (i : Job). i.since) is) x

      inside : c < length s.shows → Timed p.row (mode_then s) (opening_then s) (s.next + 1) j.since
      inside l = go (due_on s c) refl (sym (runs_below c l) ∙ e)

  -- The books after the tick.
  booked_then : Booked (length s.shows) s.rows (acts s (tick_events s)) h₃
  booked_then = book_acts (tick_events s) b valid

  -- The numbers and the jobs after the tick.
  timely_then : (s.next ≡ 2 ^ 40 → ⊥) → Timely s.rows (tell_tick h₃)
  timely_then more = record {
    mode = omega (arith, mode_is, mode_small);
    opening = omega (arith, opening_is, opening_before, ticks_is);
    ticks = before_end;
    starts = λ c r p.
        let l : c < length s.shows = omega (arith, st.there r p.row p.at, p.on) in
        omega (
          arith,
          ap (λ (g : Told). g.starts r) whole,
          the_starts.starts_below c r l p,
          starts_then c r p,
          ti.starts c r p,
          ticks_is,
          b.next,
        );
    jobs = λ c j e p.
        subst₃ (λ (x y z : ℕ). Timed p.row x y z j.since) (sym mode_is) (sym opening_is)
        (ap (λ (n : ℕ). n + 1) (sym ticks_is)) (timed_then c j e p);
  }
    where
      before_end : h₃.ticks + 1 ≤ 2 ^ 40
      before_end = below_end h₃.ticks (2 ^ 40) (omega (arith, ticks_is, b.next, ti.ticks)) (λ e. more (sym ticks_is ∙ e))

  -- How often an event is written, by the three parts of the tick.
  times_are : (e : Event) → times e (tick_events s) ≡ times e (switch_event (switches s)) + (times e cuts + times e begins)
  times_are e =
      times_append e (switch_event (switches s)) (cuts ++ begins)
      ∙ ap (λ (n : ℕ). times e (switch_event (switches s)) + n) (times_append e cuts begins)

  starts_are : (c r : ℕ) → times (Start c r) (tick_events s) ≡ times (Start c r) begins
  starts_are c r =
      omega (
        arith,
        times_are (Start c r),
        start_switch c r (switches s),
        times_none (Start c r) (λ i. cut_event i (cut_on s i) (job s i)) (λ i. start_cut c r i (cut_on s i) (job s i))
            (length s.shows),
      )

  cuts_are : (c r : ℕ) → times (Cut c r) (tick_events s) ≡ times (Cut c r) cuts
  cuts_are c r =
      omega (
        arith,
        times_are (Cut c r),
        cut_switch c r (switches s),
        times_none (Cut c r) (λ i. start_event i (due_on s i)) (λ i. cut_start c r i (due_on s i)) (length s.shows),
      )

  switch_is : times Switch (tick_events s) ≡ cond (switches s) 1 0
  switch_is =
      omega (
        arith,
        times_are Switch,
        switch_switch (switches s),
        times_none Switch (λ i. cut_event i (cut_on s i) (job s i)) (λ i. switch_cut i (cut_on s i) (job s i))
            (length s.shows),
        times_none Switch (λ i. start_event i (due_on s i)) (λ i. switch_start i (due_on s i)) (length s.shows),
      )

  -- A start that is written is of a due row.
  some_start : (c r : ℕ) → 1 ≤ times (Start c r) (tick_events s) → due_on s c ≡ Some r
  some_start c r l =
      start_some c r (due_on s c)
      (times_some (Start c r) (λ i. start_event i (due_on s i)) c (λ i n. start_elsewhere c r i n (due_on s i))
      (length s.shows) (omega (arith, starts_are c r))).1

  -- The row is due, by what is told before the tick and after its events.
  abbrev DueThen : PlanRow → Type 0
  DueThen row = Due row h₃.mode h₃.opening h.ticks

  due_along : (row : PlanRow) → Due row (mode_then s) (opening_then s) s.next → DueThen row
  due_along row = subst₃ (λ (x y z : ℕ). Due row x y z) (sym mode_is) (sym opening_is) b.next

  due_back : (row : PlanRow) → DueThen row → Due row (mode_then s) (opening_then s) s.next
  due_back row = subst₃ (λ (x y z : ℕ). Due row x y z) mode_is opening_is (sym b.next)

  -- The rows that are due start, and no others.
  on_time_then : OnTime s.rows h (tick_events s)
  on_time_then = record {
    exactly_when = λ r row at. (started_due r row at, due_started r row at);
    once = λ c r.
        omega (
          arith,
          starts_are c r,
          times_most (Start c r) (λ i. start_event i (due_on s i)) c (λ i n. start_elsewhere c r i n (due_on s i))
              (start_most c r (due_on s c)) (length s.shows),
        );
    no_other = λ c r l. let x = (due_called c r (some_start c r l)).place in (x.row, x.at, x.on);
  }
    where
      started_due
          : (r : ℕ) (row : PlanRow) → slice_get s.rows r ≡ Some row → times (Start row.controller r) (tick_events s) ≡ 1
          → DueThen row
      started_due r row at e =
          let q = due_called row.controller r (some_start row.controller r (omega arith)) in
          let p : Placed s.rows row.controller r = record { row = row; at = at; on = refl } in
          let x : Due q.place.row (mode_then s) (opening_then s) s.next =
          (q.belongs, turn_quoted q.place.row (mode_then s) (opening_then s) s.next opening_before q.turn) in
          due_along row (subst (λ (y : PlanRow). Due y (mode_then s) (opening_then s) s.next) (same_row q.place p refl) x)

      due_started
          : (r : ℕ) (row : PlanRow) → slice_get s.rows r ≡ Some row → DueThen row
          → times (Start row.controller r) (tick_events s) ≡ 1
      due_started r row at d =
          let (belongs, quoted) = due_back row d in
          let sound = st.sound r row at in
          let room = period_room row sound (mode_then s) belongs in
          let one = sound.range.some (mode_then s) belongs in
          let q : Called s.rows (mode_then s) (s.next - opening_then s) row.controller r = record {
            place = record { row = row; at = at; on = refl };
            belongs = belongs;
            turn = quoted_turn row (mode_then s) (opening_then s) s.next (omega arith) quoted;
          } in
          starts_are row.controller r
          ∙ times_at (Start row.controller r) (λ i. start_event i (due_on s i)) row.controller
          (λ i n. start_elsewhere row.controller r i n (due_on s i)) (length s.shows) (st.there r row at)
          ∙ start_here row.controller r (due_on s row.controller) (called_due row.controller r q)

  -- What runs after the tick is in time.
  in_time_then : InTime s.rows h (tick_events s)
  in_time_then c j e =
      let p = booked_then.own c j e in
      let t = timed_then c j e p in
      let x : s.next + start p.row (mode_then s) < j.since + p.row.task.deadline =
      omega (arith, t.within, (st.sound j.row p.row p.at).within (mode_then s) t.belongs) in
      (p.row, p.at, subst₂ (λ (n y : ℕ). n + start p.row y < j.since + p.row.task.deadline) b.next (sym mode_is) x)

  -- ---- overruns

  job_below : (c : ℕ) (j : Job) → job s c ≡ Some j → c < length s.shows
  job_below c j e =
      ⊎_elim
      (λ (l : c < length s.shows). l)
      (λ (l : length s.shows ≤ c).
      none_some j (sym (ap (λ (o : Option ℕ). job_of o (get_or s.since c 0)) (get_or_past s.shows c None l)) ∙ e))
      (cases_lt c (length s.shows))

  -- The job is spent, by what is told before the tick.
  abbrev SpentNow : Job → Type 0
  SpentNow j = Spent s.rows h.mode h.ticks j

  spent_along : (j : Job) → Spent s.rows s.mode s.next j → SpentNow j
  spent_along j = subst₂ (λ (x y : ℕ). Spent s.rows x y j) b.mode b.next

  spent_back : (j : Job) → SpentNow j → Spent s.rows s.mode s.next j
  spent_back j = subst₂ (λ (x y : ℕ). Spent s.rows x y j) (sym b.mode) (sym b.next)

  -- The test for a spent job tells it.
  is_spent : (c : ℕ) (j : Job) → job s c ≡ Some j → spent_on s c ≡ true → SpentNow j
  is_spent c j e t =
      let p = placed_job c j e in
      let x : spent s.rows s.mode s.next (Some j) ≡ true = ap (spent s.rows s.mode s.next) (sym e) ∙ t in
      let y : leb (budget p.row.task s.mode) (s.next - j.since) ≡ true =
      ap (λ (o : Option PlanRow). leb (budget_at o s.mode) (s.next - j.since)) (sym p.at) ∙ x in
      let low = leb-true (budget p.row.task s.mode) (s.next - j.since) y in
      spent_along j (p.row, p.at, omega (arith, (timed_now c j e p).past))

  spent_is : (c : ℕ) (j : Job) → job s c ≡ Some j → SpentNow j → spent_on s c ≡ true
  spent_is c j e k =
      let (row, at, l) = spent_back j k in
      ap (spent s.rows s.mode s.next) e
      ∙ ap (λ (o : Option PlanRow). leb (budget_at o s.mode) (s.next - j.since)) at
      ∙ le-leb (budget row.task s.mode) (s.next - j.since) (omega arith)

  some_job : (c : ℕ) → spent_on s c ≡ true → (j : Job) × (job s c ≡ Some j)
  some_job c t = go (job s c) refl
    where
      go : (o : Option Job) → job s c ≡ o → (j : Job) × (job s c ≡ Some j)
      go None e = absurd (both_ways (spent_on s c) (ap (spent s.rows s.mode s.next) e) t)
      go (Some j) e = (j, e)

  -- The mode is everyday and a running job is spent, by what is told before the tick.
  abbrev Overrun : Type 0
  Overrun = (h.mode ≡ 0) × ((c : ℕ) × (j : Job) × (h.running c ≡ Some j) × SpentNow j)

  switch_overrun : switches s ≡ true → Overrun
  switch_overrun e =
      let (x, y) = and_parts (eqb s.mode 0) (is_some (first_below (length s.shows) (spent_on s))) e in
      let (c, k) = some_is (first_below (length s.shows) (spent_on s)) y in
      let t = (first_some (length s.shows) (spent_on s) c k).1 in
      let (j, is) = some_job c t in
      (sym b.mode ∙ eqb-true s.mode 0 x, (c, j, sym (b.jobs c) ∙ is, is_spent c j is t))

  overrun_switch : Overrun → switches s ≡ true
  overrun_switch (z, (c, j, is, k)) =
      let e : job s c ≡ Some j = b.jobs c ∙ is in
      let (d, f) = some_first (length s.shows) (spent_on s) c (job_below c j e) (spent_is c j e k) in
      and_from (eqb s.mode 0) (is_some (first_below (length s.shows) (spent_on s)))
      (eq-eqb s.mode 0 (b.mode ∙ z)) (ap is_some f)

  -- A running job is cut once or not at all, by the test for it.
  cut_count : (c : ℕ) (j : Job) → job s c ≡ Some j → times (Cut c j.row) (tick_events s) ≡ cond (cut_on s c) 1 0
  cut_count c j e =
      cuts_are c j.row
      ∙ times_at (Cut c j.row) (λ i. cut_event i (cut_on s i) (job s i)) c
      (λ i n. cut_elsewhere c j.row i n (cut_on s i) (job s i)) (length s.shows) (job_below c j e)
      ∙ ap (λ (o : Option Job). times (Cut c j.row) (cut_event c (cut_on s c) o)) e
      ∙ cut_here c (cut_on s c) j

  -- The tick switches and cuts as the laws ask.
  overruns_then : Overruns s.rows h (tick_events s)
  overruns_then = record {
    switch_when = (λ e. switch_overrun (switched_so e), λ o. switch_is ∙ cond-true (switches s) 1 0 (overrun_switch o));
    switch_once = go (switches s) switch_is;
    cut_when = λ c j is. (cut_why c j (b.jobs c ∙ is), why_cut c j (b.jobs c ∙ is));
    cut_once = λ c r.
        omega (
          arith,
          cuts_are c r,
          times_most (Cut c r) (λ i. cut_event i (cut_on s i) (job s i)) c
              (λ i n. cut_elsewhere c r i n (cut_on s i) (job s i)) (cut_most c r (cut_on s c) (job s c)) (length s.shows),
        );
    no_other_cut = λ c r l.
        let x =
        (times_some (Cut c r) (λ i. cut_event i (cut_on s i) (job s i)) c
        (λ i n. cut_elsewhere c r i n (cut_on s i) (job s i)) (length s.shows) (omega (arith, cuts_are c r))).1 in
        let (j, is, e) = cut_some c r (cut_on s c) (job s c) x in
        (j, sym (b.jobs c) ∙ is, e);
  }
    where
      switched_so : times Switch (tick_events s) ≡ 1 → switches s ≡ true
      switched_so e = one_is (switches s) (sym switch_is ∙ e)

      go : (x : Bool) → times Switch (tick_events s) ≡ cond x 1 0 → times Switch (tick_events s) ≤ 1
      go true e = omega arith
      go false e = omega arith

      cut_why
          : (c : ℕ) (j : Job) → job s c ≡ Some j → times (Cut c j.row) (tick_events s) ≡ 1
          → (times Switch (tick_events s) ≡ 1) ⊎ SpentNow j
      cut_why c j is e =
          ⊎_elim
          (λ (x : switches s ≡ true). inl (switch_is ∙ cond-true (switches s) 1 0 x))
          (λ (x : spent_on s c ≡ true). inr (is_spent c j is x))
          (or_cases (switches s) (spent_on s c) (one_is (cut_on s c) (sym (cut_count c j is) ∙ e)))

      why_cut
          : (c : ℕ) (j : Job) → job s c ≡ Some j → (times Switch (tick_events s) ≡ 1) ⊎ SpentNow j
          → times (Cut c j.row) (tick_events s) ≡ 1
      why_cut c j is (inl e) =
          cut_count c j is ∙ cond-true (cut_on s c) 1 0 (or_left (switches s) (spent_on s c) (switched_so e))
      why_cut c j is (inr k) =
          cut_count c j is ∙ cond-true (cut_on s c) 1 0 (or_right (switches s) (spent_on s c) (spent_is c j is k))

  -- The events of the tick are in order.
  span_then : Span (length s.shows) 0 (1 + length s.shows + length s.shows) (tick_events s)
  span_then =
      let m : ℕ = length s.shows in
      span_append m 0 1 (1 + m + m) (switch_event (switches s)) (cuts ++ begins) (span_switch m (switches s))
      (span_append m 1 (1 + m) (1 + m + m) cuts begins
      (span_each m 1 (λ i. cut_event i (cut_on s i) (job s i)) (λ i. span_cut m i (cut_on s i) (job s i)) m)
      (span_each m (1 + m) (λ i. start_event i (due_on s i)) (λ i. span_start m i (due_on s i)) m))

  in_order_then : InOrder (length s.shows) h (tick_events s)
  in_order_then first rest x y e =
      let m : ℕ = length s.shows in
      span_two m 0 (1 + m + m) first rest x y (subst (Span m 0 (1 + m + m)) e span_then)

  -- The tick with the events of the machine keeps all.
  pub well_ticked : (s.next ≡ 2 ^ 40 → ⊥) → WellTicked (length s.shows) s.rows s h (tick_events s)
  well_ticked more = record {
    agrees = record { booked = book_passed booked_then; timely = timely_then more };
    idle_then = λ first rest c r e.
        valid_start (length s.shows) s.rows h first rest c r (subst (Valids (length s.shows) s.rows h) e valid);
    on_time = on_time_then;
    in_time = in_time_then;
    overruns = overruns_then;
    in_order = in_order_then;
    few_events =
        omega (
          arith,
          span_length (length s.shows) 0 (1 + length s.shows + length s.shows) (tick_events s) span_then,
        );
  }
