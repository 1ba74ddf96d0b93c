-- The laws leave nothing open: they fix each answer, and so the whole history.
use Rattle.std.proofs.Common.{◌≡◌, ℕ, ◌+◌, ◌*◌, ◌^◌, ◌<◌, ◌≤◌, Bool, true, false, cond, eqb, ◌⊎◌, List, [], ◌∷◌, ◌++◌, length, get_or, is_some, Some, None, Ok, Option, sym, refl, ap, ◌∙◌, subst, ap₂, subst₂, inl, inr, ⊎_elim, arith}
use Rattle.std.proofs.lemmas.List.{append_assoc, same_lists, get_or_default}
use Rattle.std.proofs.lemmas.Bool.{cases_eq, cases_lt, cases_Bool, eqb-true, eq-eqb, and_parts, and_from, both_ways}
use Rattle.planner.specs.Standing.{Stands}
use Rattle.planner.specs.declared.row.Row.{Row as PlanRow}
use Rattle.benches.specs.Commands.{States}
use Rattle.machine.specs.declared.event.Event.{Event}
use Rattle.machine.specs.declared.event.Event.TheVariants.{Switch, Cut, Start}
use Rattle.machine.specs.declared.event.Written.{Written}
use Rattle.machine.specs.declared.entry.Call.{Call}
use Rattle.machine.specs.declared.entry.Call.TheVariants.{Tick, Report, Strike, Return, Controller, Row, Status}
use Rattle.machine.specs.declared.entry.Reply.TheVariants.{Ticked}
use Rattle.machine.specs.declared.entry.Entry.{Entry}
use Rattle.machine.specs.Below.{first_below}
use Rattle.machine.specs.Plans.{Due}
use Rattle.machine.specs.Entries.{Answer, Job, written, events_of, entry}
use Rattle.machine.specs.Machine.{State, busy, answer, after, run, at_end, loaded}
use Rattle.machine.specs.History.{
  History,
  calls_of,
  Told,
  nothing,
  tell,
  tell_all,
  told,
  tell_event,
  tell_events,
  same_event,
  times,
}
use Rattle.machine.specs.Laws.{OnTime, Spent, Overruns, place_of, InOrder, Padded, Answers, Commands, row_of}
use Rattle.machine.specs.Theorems.{LawsLeaveNothingOpen}
use Rattle.machine.proofs.Basics.{first_some}
use Rattle.machine.proofs.Books.{shown_is}
use Rattle.machine.proofs.Sound.{Agrees}
use Rattle.machine.proofs.Runs.{step, each_idle, agrees_loaded, agrees_end}

-- ---- lists of events in order

-- The test for the same event tells it.
same_refl : (x : Event) → same_event x x ≡ true
same_refl Switch = refl
same_refl (Cut c r) = and_from (eqb c c) (eqb r r) (eq-eqb c c refl) (eq-eqb r r refl)
same_refl (Start c r) = and_from (eqb c c) (eqb r r) (eq-eqb c c refl) (eq-eqb r r refl)

same_is : (x y : Event) → same_event x y ≡ true → x ≡ y
same_is Switch Switch e = refl
same_is Switch (Cut d q) e = absurd (both_ways false refl e)
same_is Switch (Start d q) e = absurd (both_ways false refl e)
same_is (Cut c r) Switch e = absurd (both_ways false refl e)
same_is (Cut c r) (Cut d q) e =
    let (x, y) = and_parts (eqb c d) (eqb r q) e in ap₂ Cut (eqb-true c d x) (eqb-true r q y)
same_is (Cut c r) (Start d q) e = absurd (both_ways false refl e)
same_is (Start c r) Switch e = absurd (both_ways false refl e)
same_is (Start c r) (Cut d q) e = absurd (both_ways false refl e)
same_is (Start c r) (Start d q) e =
    let (x, y) = and_parts (eqb c d) (eqb r q) e in ap₂ Start (eqb-true c d x) (eqb-true r q y)

times_head : (x : Event) (xs : List Event) → times x (x ∷ xs) ≡ 1 + times x xs
times_head x xs = ap (λ (b : Bool). cond {A = ℕ} b 1 0 + times x xs) (same_refl x)

times_skip : (e x : Event) (xs : List Event) → same_event e x ≡ false → times e (x ∷ xs) ≡ times e xs
times_skip e x xs k = ap (λ (b : Bool). cond {A = ℕ} b 1 0 + times e xs) k ∙ omega arith

module _ (m : ℕ) (h : Told) where
  in_order_tail : (x : Event) (es : List Event) → InOrder m h (x ∷ es) → InOrder m h es
  in_order_tail x es o first rest a b e = o (x ∷ first) rest a b (ap (λ (ys : List Event). x ∷ ys) e)

  -- Each event after the first has a higher place.
  later
      : (es : List Event) (x : Event) → InOrder m h (x ∷ es) → (e : Event) → 1 ≤ times e es → place_of m x < place_of m e
  later [] x o e l = absurd (omega arith)
  later (y ∷ es) x o e l =
      let xy : place_of m x < place_of m y = o [] es x y refl in
      ⊎_elim
      (λ (k : same_event e y ≡ true). subst (λ (z : Event). place_of m x < place_of m z) (sym (same_is e y k)) xy)
      (λ (k : same_event e y ≡ false).
      let ye = later es y (in_order_tail x (y ∷ es) o) e (omega (arith, times_skip e y es k)) in omega arith)
      (cases_Bool (same_event e y))

  -- Two lists in order with the same events are the same.
  ordered_same
      : (xs ys : List Event) → InOrder m h xs → InOrder m h ys → ((e : Event) → times e xs ≡ times e ys) → xs ≡ ys
  ordered_same [] [] o p f = refl
  ordered_same [] (y ∷ ys) o p f = absurd (omega (arith, f y, times_head y ys))
  ordered_same (x ∷ xs) [] o p f = absurd (omega (arith, f x, times_head x xs))
  ordered_same (x ∷ xs) (y ∷ ys) o p f =
      ap₂ (λ (z : Event) (zs : List Event). z ∷ zs) head (ordered_same xs ys (in_order_tail x xs o) (in_order_tail y ys p) rest)
    where
      head : x ≡ y
      head =
          ⊎_elim (same_is x y)
          (λ (k : same_event x y ≡ false). ⊎_elim (λ (n : same_event y x ≡ true). sym (same_is y x n))
          (λ (n : same_event y x ≡ false).
          let a = later ys y p x (omega (arith, f x, times_head x xs, times_skip x y ys k)) in
          let b = later xs x o y (omega (arith, f y, times_head y ys, times_skip y x xs n)) in
          absurd (omega arith))
          (cases_Bool (same_event y x)))
          (cases_Bool (same_event x y))

      rest : (e : Event) → times e xs ≡ times e ys
      rest e = omega (arith, f e, ap (λ (z : Event). cond {A = ℕ} (same_event e z) 1 0) head)

-- ---- the mode that events leave

-- What is told after events with n switches among them.
record Left (h g : Told) (n : ℕ) : Type 0 where
  none : n ≡ 0 → (g.mode ≡ h.mode) × (g.opening ≡ h.opening)
  some : 1 ≤ n → (g.mode ≡ 1) × (g.opening ≡ h.ticks)

left : (es : List Event) (h : Told) → Left h (tell_events h es) (times Switch es)
left [] h = record { none = λ z. (refl, refl); some = λ l. absurd (omega arith) }
left (Switch ∷ es) h =
    let i = left es (tell_event h Switch) in
    record {
      none = λ z. absurd (omega arith);
      some = λ l.
          ⊎_elim
          (λ (z : times Switch es ≡ 0). i.none z)
          (λ (n : times Switch es ≡ 0 → ⊥). i.some (omega arith))
          (cases_eq (times Switch es) 0);
    }
left (Cut c r ∷ es) h =
    let i = left es (tell_event h (Cut c r)) in
    record { none = λ z. i.none (omega arith); some = λ l. i.some (omega arith) }
left (Start c r ∷ es) h =
    let i = left es (tell_event h (Start c r)) in
    record { none = λ z. i.none (omega arith); some = λ l. i.some (omega arith) }

-- As many switches leave the same mode and the same opening.
same_force
    : (h : Told) (xs ys : List Event) → times Switch xs ≡ times Switch ys
    → ((tell_events h xs).mode ≡ (tell_events h ys).mode) × ((tell_events h xs).opening ≡ (tell_events h ys).opening)
same_force h xs ys e =
    let i = left xs h in
    let j = left ys h in
    ⊎_elim {C = ((tell_events h xs).mode ≡ (tell_events h ys).mode) × ((tell_events h xs).opening ≡ (tell_events h ys).opening)}
    (λ (z : times Switch xs ≡ 0). let (a, b) = i.none z in let (c, d) = j.none (omega arith) in (a ∙ sym c, b ∙ sym d))
    (λ (n : times Switch xs ≡ 0 → ⊥).
    let (a, b) = i.some (omega arith) in let (c, d) = j.some (omega arith) in (a ∙ sym c, b ∙ sym d))
    (cases_eq (times Switch xs) 0)

-- ---- the events of a tick

-- Two numbers up to 1 that are 1 together are the same.
bit : (a b : ℕ) → a ≤ 1 → b ≤ 1 → (a ≡ 1 → b ≡ 1) → (b ≡ 1 → a ≡ 1) → a ≡ b
bit a b l k f g =
    ⊎_elim (λ (e : a ≡ 1). e ∙ sym (f e))
    (λ (n : a ≡ 1 → ⊥). ⊎_elim (λ (e : b ≡ 1). absurd (n (g e))) (λ (o : b ≡ 1 → ⊥). omega arith) (cases_eq b 1))
    (cases_eq a 1)

module _ (rows : List PlanRow) (h : Told) where
  -- A switch of the one is a switch of the other.
  switch_one : (xs ys : List Event) → Overruns rows h xs → Overruns rows h ys → times Switch xs ≡ 1 → times Switch ys ≡ 1
  switch_one xs ys a b e = b.switch_when.1 (a.switch_when.0 e)

  same_switch : (xs ys : List Event) → Overruns rows h xs → Overruns rows h ys → times Switch xs ≡ times Switch ys
  same_switch xs ys a b =
      bit (times Switch xs) (times Switch ys) a.switch_once b.switch_once (switch_one xs ys a b) (switch_one ys xs b a)

  -- A cut of the one is a cut of the other.
  cut_one
      : (xs ys : List Event) → Overruns rows h xs → Overruns rows h ys → (c r : ℕ) → times (Cut c r) xs ≡ 1
      → times (Cut c r) ys ≡ 1
  cut_one xs ys a b c r e =
      let (j, is, same) = a.no_other_cut c r (omega arith) in
      let why = (a.cut_when c j is).0 (ap (λ (q : ℕ). times (Cut c q) xs) same ∙ e) in
      let then : (times Switch ys ≡ 1) ⊎ Spent rows h.mode h.ticks j =
      ⊎_elim (λ (x : times Switch xs ≡ 1). inl (switch_one xs ys a b x)) (λ (x : Spent rows h.mode h.ticks j). inr x) why in
      ap (λ (q : ℕ). times (Cut c q) ys) (sym same) ∙ (b.cut_when c j is).1 then

  -- A start of the one is a start of the other.
  start_one
      : (xs ys : List Event) → Overruns rows h xs → Overruns rows h ys → OnTime rows h xs → OnTime rows h ys
      → (c r : ℕ) → times (Start c r) xs ≡ 1 → times (Start c r) ys ≡ 1
  start_one xs ys a b p q c r e =
      let (row, at, on) = p.no_other c r (omega arith) in
      let due = (p.exactly_when r row at).0 (ap (λ (i : ℕ). times (Start i r) xs) on ∙ e) in
      let (mode, opening) = same_force h xs ys (same_switch xs ys a b) in
      ap (λ (i : ℕ). times (Start i r) ys) (sym on)
      ∙ (q.exactly_when r row at).1 (subst₂ (λ (x y : ℕ). Due row x y h.ticks) mode opening due)

  -- The laws fix how often each event is written.
  same_times
      : (xs ys : List Event) → Overruns rows h xs → Overruns rows h ys → OnTime rows h xs → OnTime rows h ys
      → (e : Event) → times e xs ≡ times e ys
  same_times xs ys a b p q Switch = same_switch xs ys a b
  same_times xs ys a b p q (Cut c r) =
      bit (times (Cut c r) xs) (times (Cut c r) ys) (a.cut_once c r) (b.cut_once c r) (cut_one xs ys a b c r)
      (cut_one ys xs b a c r)
  same_times xs ys a b p q (Start c r) =
      bit (times (Start c r) xs) (times (Start c r) ys) (p.once c r) (q.once c r) (start_one xs ys a b p q c r)
      (start_one ys xs b a q p c r)

-- ---- the answers

-- The laws that fix an answer.
record Lawful (m : ℕ) (rows : List PlanRow) (h : Told) (call : Call) (a : Answer) : Type 0 where
  answers : Answers m rows h call a
  commands : Commands m h call a
  on_time : (w : Written) → a ≡ Ok (Ticked w) → OnTime rows h (events_of w)
  overruns : (w : Written) → a ≡ Ok (Ticked w) → Overruns rows h (events_of w)
  in_order : (w : Written) → a ≡ Ok (Ticked w) → InOrder m h (events_of w)
  padded : Padded h call a

-- No job runs, or one does.
abbrev IdleOrBusy : Told → Type 0
IdleOrBusy h = ((c : ℕ) → h.running c ≡ None) ⊎ ((c : ℕ) × (j : Job) × (h.running c ≡ Some j))

module _ {m : ℕ} {h : Told} where
  -- Two lawful answers to a report or a strike are the same.
  same_end
      : (call : Call) (c : ℕ) → (call ≡ Report c) ⊎ (call ≡ Strike c) → (a b : Answer) → Commands m h call a
      → Commands m h call b → a ≡ b
  same_end call c k a b x y =
      ⊎_elim inside (λ (l : m ≤ c). x.end_beyond c k l ∙ sym (y.end_beyond c k l)) (cases_lt c m)
    where
      go : c < m → (o : Option Job) → h.running c ≡ o → a ≡ b
      go l None e = x.end_idle c k l e ∙ sym (y.end_idle c k l e)
      go l (Some j) e = x.end_taken c k j e ∙ sym (y.end_taken c k j e)

      inside : c < m → a ≡ b
      inside l = go l (h.running c) refl

  -- Two to a return are.
  same_return : IdleOrBusy h → (a b : Answer) → Commands m h Return a → Commands m h Return b → a ≡ b
  same_return idle a b x y =
      ⊎_elim
      (λ (e : h.mode ≡ 0). x.return_everyday refl e ∙ sym (y.return_everyday refl e))
      (λ n. go n idle)
      (cases_eq h.mode 0)
    where
      go : (h.mode ≡ 0 → ⊥) → IdleOrBusy h → a ≡ b
      go n (inl f) = x.return_taken refl n f ∙ sym (y.return_taken refl n f)
      go n (inr (c, j, e)) = x.return_busy refl n c j e ∙ sym (y.return_busy refl n c j e)

module _ {m : ℕ} {rows : List PlanRow} {h : Told} where
  -- Two to a tick are.
  same_tick : (places : ℕ) (a b : Answer) → Lawful m rows h (Tick places) a → Lawful m rows h (Tick places) b → a ≡ b
  same_tick places a b x y = ⊎_elim over on (cases_eq h.ticks (2 ^ 40))
    where
      over : h.ticks ≡ 2 ^ 40 → a ≡ b
      over e = x.commands.tick_over places refl e ∙ sym (y.commands.tick_over places refl e)

      taken : (w v : Written) → a ≡ Ok (Ticked w) → b ≡ Ok (Ticked v) → a ≡ b
      taken w v p q =
          let es : events_of w ≡ events_of v =
          ordered_same m h (events_of w) (events_of v) (x.in_order w p) (y.in_order v q)
          (same_times rows h (events_of w) (events_of v) (x.overruns w p) (y.overruns v q) (x.on_time w p) (y.on_time v q)) in
          p ∙ ap (λ x. Ok (Ticked x)) (x.padded w p ∙ ap written es ∙ sym (y.padded v q)) ∙ sym q

      on : (h.ticks ≡ 2 ^ 40 → ⊥) → a ≡ b
      on n =
          ⊎_elim
          (λ (l : places < 2 * m + 1). x.commands.tick_short places refl n l ∙ sym (y.commands.tick_short places refl n l))
          (λ (l : 2 * m + 1 ≤ places).
          let (w, p) = x.commands.tick_taken places refl n l in
          let (v, q) = y.commands.tick_taken places refl n l in
          taken w v p q)
          (cases_lt places (2 * m + 1))

  -- Two lawful answers to a call are the same.
  same_answer
      : IdleOrBusy h → (call : Call) (a b : Answer) → Lawful m rows h call a → Lawful m rows h call b → a ≡ b
  same_answer idle (Tick places) a b x y = same_tick places a b x y
  same_answer idle (Report c) a b x y = same_end (Report c) c (inl refl) a b x.commands y.commands
  same_answer idle (Strike c) a b x y = same_end (Strike c) c (inr refl) a b x.commands y.commands
  same_answer idle Return a b x y = same_return idle a b x.commands y.commands
  same_answer idle (Controller c) a b x y =
      ⊎_elim
      (λ (l : c < m). x.answers.state c refl l ∙ sym (y.answers.state c refl l))
      (λ (l : m ≤ c). x.answers.no_state c refl l ∙ sym (y.answers.no_state c refl l))
      (cases_lt c m)
  same_answer idle (Row r) a b x y =
      ⊎_elim
      (λ (l : r < length rows). x.answers.counts r refl l ∙ sym (y.answers.counts r refl l))
      (λ (l : length rows ≤ r). x.answers.no_counts r refl l ∙ sym (y.answers.no_counts r refl l))
      (cases_lt r (length rows))
  same_answer idle Status a b x y = x.answers.standing refl ∙ sym (y.answers.standing refl)

-- ---- whole histories

tell_all_append : (xs ys : History) (h : Told) → tell_all h (xs ++ ys) ≡ tell_all (tell_all h xs) ys
tell_all_append [] ys h = refl
tell_all_append (x ∷ xs) ys h = tell_all_append xs ys (tell h x.call x.answer)

module _ {m : ℕ} {rows : List PlanRow} (one : 1 ≤ m) (st : Stands m rows) where
  -- The machine's answers are lawful.
  lawful_step : {s : State} {h : Told} → Agrees m rows s h → (call : Call) → Lawful m rows h call (answer s call)
  lawful_step ag call =
      let x = step one st ag call in
      record {
        answers = x.answers;
        commands = x.commands;
        on_time = x.on_time;
        overruns = x.overruns;
        in_order = x.in_order;
        padded = x.padded;
      }

  -- The bench tells which.
  idle_or_busy : {s : State} {h : Told} → Agrees m rows s h → IdleOrBusy h
  idle_or_busy {s} {h} ag = go (first_below (length s.shows) (busy s)) refl
    where
      job_at : (c : ℕ) (o : Option Job) → h.running c ≡ o → busy s c ≡ true → (c : ℕ) × (j : Job) × (h.running c ≡ Some j)
      job_at c None e t = absurd (both_ways (busy s c) (ap is_some (shown_is ag.booked c ∙ ap row_of e)) t)
      job_at c (Some j) e t = (c, j, e)

      go : (o : Option ℕ) → first_below (length s.shows) (busy s) ≡ o → IdleOrBusy h
      go None e = inl (each_idle ag e)
      go (Some c) e = inr (job_at c (h.running c) refl (first_some (length s.shows) (busy s) c e).1)

  -- What is left of a lawful history, from a state that agrees with what came before, is the machine's.
  same_run
      : (rest before : History) (s : State) → Agrees m rows s (told before)
      → ((first later : History) (call : Call) (a : Answer) → before ++ rest ≡ first ++ (entry call a ∷ later)
      → Lawful m rows (told first) call a)
      → rest ≡ run s (calls_of rest)
  same_run [] before s ag law = refl
  same_run (e ∷ rest) before s ag law =
      let call : Call = e.call in
      let is : e.answer ≡ answer s call =
      same_answer (idle_or_busy ag) call e.answer (answer s call) (law before rest call e.answer refl)
      (lawful_step ag call) in
      let front : told (before ++ (e ∷ [])) ≡ tell (told before) call (answer s call) =
      tell_all_append before (e ∷ []) nothing ∙ ap (tell (told before) call) is in
      let ag' : Agrees m rows (after s call) (told (before ++ (e ∷ []))) =
      subst (Agrees m rows (after s call)) (sym front) (step one st ag call).agrees in
      let tail : rest ≡ run (after s call) (calls_of rest) =
      same_run rest (before ++ (e ∷ [])) (after s call) ag'
      (λ first later c a k. law first later c a (sym (append_assoc before (e ∷ []) rest) ∙ k)) in
      ap₂ (λ (x : Entry) (xs : History). x ∷ xs) (ap (entry call) is) tail

pub laws_leave_nothing_open : LawsLeaveNothingOpen
laws_leave_nothing_open m rows one st h shows laws = (same, bench)
  where
    same : h ≡ run (loaded m rows) (calls_of h)
    same = same_run one st h [] (loaded m rows) (agrees_loaded st) (λ first later call a e. record {
      answers = laws.answers first later call a e;
      commands = laws.commands first later call a e;
      on_time = laws.on_time first later call a e;
      overruns = laws.overruns first later call a e;
      in_order = laws.in_order first later call a e;
      padded = laws.padded first later call a e;
    })

    bench : shows ≡ (at_end (loaded m rows) (calls_of h)).shows
    bench =
        let b = (agrees_end one st (calls_of h) (loaded m rows) nothing (agrees_loaded st)).booked in
        let ys : States = (at_end (loaded m rows) (calls_of h)).shows in
        let each : (c : ℕ) → get_or shows c None ≡ get_or ys c None =
        λ c. laws.bench.each c ∙ ap (λ (g : History). row_of ((told g).running c)) same ∙ sym (shown_is b c) in
        same_lists shows ys (laws.bench.count ∙ sym b.shows)
        (λ k d l.
        get_or_default shows k d None l ∙ each k ∙ get_or_default ys k None d (omega (arith, laws.bench.count, b.shows)))
