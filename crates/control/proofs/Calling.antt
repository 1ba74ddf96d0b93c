-- What a call leaves, by its answer.
use Rattle.std.proofs.Common.{◌≡◌, ℕ, ◌+◌, ◌*◌, ◌<◌, ◌≤◌, Bool, true, false, cond, eqb, ltb, leb, List, ◌++◌, length, take, drop, set, IsErrAnd, None, Ok, Err, Option, Result, sym, refl, ap, ◌∙◌, subst, ap₂, arith}
use Rattle.std.proofs.lemmas.List.{take-append-drop}
use Rattle.std.proofs.lemmas.Result.{err_from_is_err_and}
use Rattle.std.proofs.lemmas.Bool.{cond-true, cond-false, le-leb, le-ltb, lt-leb, lt-ltb}
use Rattle.records.specs.Lists.{kept, lent}
use Rattle.records.specs.declared.Records.{Records}
use Rattle.tasks.specs.Refusals.{control_refusal}
use Rattle.tasks.specs.declared.fault.BenchFault.{BenchFault}
use Rattle.tasks.specs.declared.fault.ControlFault.{ControlFault}
use Rattle.tasks.specs.declared.fault.ControlFault.TheVariants.{Bench, NotLoaded, Over, Places}
use Rattle.benches.specs.Commands.{States, by_answer, end_after, end_answer as bench_end}
use Rattle.machine.specs.Entries.{written}
use Rattle.machine.specs.Below.{first_below}
use Rattle.machine.specs.Machine.{State, acts, answer, answered, blocked, end_answer, end_of_time, from_bench, passed, settle, tick_answer, tick_events, unless_blocked, when_loaded}
use Rattle.machine.specs.declared.entry.Reply.TheVariants.{Ticked, Done}
use Rattle.machine.specs.declared.entry.Call.{Call}
use Rattle.machine.specs.declared.entry.Call.TheVariants.{Tick}
use Rattle.machine.specs.declared.event.Event.{Event}
use Rattle.machine.proofs.Basics.{read_back}
use Rattle.control.specs.Calls.{EventsAfter, Steps, counted}
use Rattle.control.specs.States.{state_of}
use Rattle.control.specs.Turns.{Wrote}
use Rattle.control.specs.declared.control.Control.{Control}

-- a fault is carried up
pub carried : {T E : Type 0} (r : Result T E) (fault : E) → IsErrAnd r (λ y. y ≡ fault) → r ≡ Err fault
carried r fault e = let (y, is, same) = err_from_is_err_and r e in is ∙ ap Err same

-- ---- the first check

-- the first check refuses exactly where no plan is loaded
pub unready : (s : State) (fault : ControlFault) → Err fault ≡ when_loaded {X = Unit {0}} s (Ok tt) → (eqb s.controllers 0 ≡ true) × (fault ≡ NotLoaded)
unready s fault e = go (eqb s.controllers 0) e
  where
    go : (b : Bool) → Err fault ≡ cond {A = Result (Unit {0}) ControlFault} b (Err NotLoaded) (Ok tt) → (b ≡ true) × (fault ≡ NotLoaded)
    go true e = (refl, cc)
    go false e = let z : ◌≡◌ {A = ℕ} 0 1 = cc in absurd (omega arith)

pub ready : (s : State) (x : Unit {0}) → Ok x ≡ when_loaded {X = Unit {0}} s (Ok tt) → eqb s.controllers 0 ≡ false
ready s x e = go (eqb s.controllers 0) e
  where
    go : (b : Bool) → Ok x ≡ cond {A = Result (Unit {0}) ControlFault} b (Err NotLoaded) (Ok tt) → b ≡ false
    go true e = let z : ◌≡◌ {A = ℕ} 0 1 = cc in absurd (omega arith)
    go false e = refl

module _ {X : Type 0} (s : State) (r : Result X ControlFault) where
  -- where the first check refuses, so does the call
  pub not_loaded : (fault : ControlFault) → Err fault ≡ when_loaded {X = Unit {0}} s (Ok tt) → when_loaded s r ≡ Err fault
  not_loaded fault e =
      let (t, is) = unready s fault e in
      cond-true (eqb s.controllers 0) (Err NotLoaded) r t ∙ ap (λ (f : ControlFault). Err f) (sym is)

  -- where it does not, the rest decides
  pub loaded_then : (x : Unit {0}) → Ok x ≡ when_loaded {X = Unit {0}} s (Ok tt) → when_loaded s r ≡ r
  loaded_then x e = cond-false (eqb s.controllers 0) (Err NotLoaded) r (ready s x e)

-- ---- what is left

module _ {B F : Type 0} (means : B → States) (keeps : B → F) (a b : Control B) where
  -- a refused call leaves all as it was
  pub refused
      : (call : Call) (fault : ControlFault) → answer (state_of means a) call ≡ Err (control_refusal fault)
      → state_of means b ≡ state_of means a → b.plan ≡ a.plan → keeps b.bench ≡ keeps a.bench → Steps means keeps a b call
  refused call fault e s p k = record { state = s ∙ sym (ap (settle (state_of means a) call) e); plan = p; fixed = k }

  -- an accepted tick leaves the state on which its events were carried out
  pub ticked
      : (places : ℕ) (es : List Event) → tick_answer (state_of means a) places ≡ Ok es
      → state_of means b ≡ passed (acts (state_of means a) es) → b.plan ≡ a.plan → keeps b.bench ≡ keeps a.bench
      → Steps means keeps a b (Tick places)
  ticked places es e s p k = record {
    state = s ∙ ap (λ (xs : List Event). passed (acts (state_of means a) xs)) (sym (read_back es))
        ∙ sym (ap (λ (r : Result (List Event) ControlFault). settle (state_of means a) (Tick places) (answered (λ xs. Ticked (written xs)) r)) e);
    plan = p;
    fixed = k;
  }

module _ {B F : Type 0} (means : B → States) (keeps : B → F) (a : Control B) (call : Call) (c : ℕ) where
  -- the same control over another bench
  abbrev over : B → Control B
  over b = record { bench = b; plan = a.plan; mode = a.mode; opening = a.opening; next = a.next; jobs = a.jobs; tallies = a.tallies }

  -- a report or a strike that the bench refuses
  pub end_refused
      : (x : Unit {0}) → Ok x ≡ when_loaded {X = Unit {0}} (state_of means a) (Ok tt)
      → answer (state_of means a) call ≡ answered (λ _. Done) (end_answer (state_of means a) c)
      → (r : Result (Unit {0}) ControlFault) (fault : BenchFault) → r ≡ Err (Bench fault) → Err fault ≡ bench_end (means a.bench) c
      → (b : B) → means b ≡ end_after (means a.bench) c → keeps b ≡ keeps a.bench
      → (r ≡ end_answer (state_of means a) c) × Steps means keeps a (over b) call
  end_refused x e kind r fault is f b shown fixed =
      let s : State = state_of means a in
      let no : end_answer s c ≡ Err (Bench fault) = loaded_then s (from_bench (bench_end s.shows c)) x e ∙ ap from_bench (sym f) in
      let same : means b ≡ means a.bench = shown ∙ ap (λ (o : Result (Unit {0}) BenchFault). by_answer o (set (means a.bench) c None) (means a.bench)) (sym f) in (
        is ∙ sym no,
        refused means keeps a (over b) call (Bench fault) (kind ∙ ap (answered (λ _. Done)) no)
            (λ i. record { controllers = s.controllers; rows = s.rows; mode = s.mode; opening = s.opening; next = s.next; shows = same i; since = s.since; counts = s.counts })
            refl fixed,
      )

-- the list after a refused tick
pub unwritten : (list : Records Event) (r : Result (List Event) ControlFault) (fault : ControlFault) → r ≡ Err fault → EventsAfter list r list
unwritten list r fault e = subst (λ x. EventsAfter list x list) (sym e) (refl, refl, refl)

-- the list after a tick that began it and added its events
pub rewritten
    : (before begun list : Records Event) (r : Result (List Event) ControlFault) (es : List Event) → r ≡ Ok es
    → begun.len ≡ 0 → lent begun ≡ lent before → begun.places.ghost_name ≡ before.places.ghost_name
    → Wrote begun list es → list.places.ghost_name ≡ begun.places.ghost_name → EventsAfter before r list
rewritten before begun list r es e none same lender w kept_name =
    let long : list.len ≡ length es = omega (arith, w.long) in
    let front : kept list ≡ es = w.kept ∙ ap (λ n. take n (lent begun) ++ es) none in
    let back : drop list.len (lent list) ≡ drop (length es) (lent before) = w.rest ∙ ap₂ drop long same in
    subst (λ x. EventsAfter before x list) (sym e) (long, sym (take-append-drop list.len (lent list)) ∙ ap₂ ◌++◌ front back, kept_name ∙ lender)

-- ---- how a tick is answered

module _ (s : State) (places : ℕ) where
  abbrev late : Result (List Event) ControlFault
  late = cond (ltb places (2 * length s.shows + 1)) (Err Places) (unless_blocked (first_below (length s.shows) (blocked s)) (tick_events s))

  pub tick_unready : (fault : ControlFault) → Err fault ≡ when_loaded {X = Unit {0}} s (Ok tt) → tick_answer s places ≡ Err fault
  tick_unready fault e = not_loaded s (cond (leb end_of_time s.next) (Err Over) late) fault e

  module _ (x : Unit {0}) (e : Ok x ≡ when_loaded {X = Unit {0}} s (Ok tt)) where
    first : tick_answer s places ≡ cond (leb end_of_time s.next) (Err Over) late
    first = loaded_then s (cond (leb end_of_time s.next) (Err Over) late) x e

    pub tick_over : end_of_time ≤ s.next → tick_answer s places ≡ Err Over
    tick_over l = first ∙ cond-true (leb end_of_time s.next) (Err Over) late (le-leb end_of_time s.next l)

    module _ (early : s.next < end_of_time) where
      second : tick_answer s places ≡ late
      second = first ∙ cond-false (leb end_of_time s.next) (Err Over) late (lt-leb end_of_time s.next early)

      pub tick_short : places < 2 * length s.shows + 1 → tick_answer s places ≡ Err Places
      tick_short l = second ∙ cond-true (ltb places (2 * length s.shows + 1)) (Err Places) _ (lt-ltb places (2 * length s.shows + 1) l)

      pub tick_by : 2 * length s.shows + 1 ≤ places → (o : Option ℕ) → o ≡ first_below (length s.shows) (blocked s) → tick_answer s places ≡ unless_blocked o (tick_events s)
      tick_by l o is =
          second
          ∙ cond-false (ltb places (2 * length s.shows + 1)) (Err Places) _ (le-ltb places (2 * length s.shows + 1) l)
          ∙ ap (λ (p : Option ℕ). unless_blocked p (tick_events s)) (sym is)

-- a refused tick leaves all as it was
pub tick_refused
    : {B F : Type 0} (means : B → States) (keeps : B → F) (a : Control B) (list : Records Event) (fault : ControlFault)
    → tick_answer (state_of means a) (length (lent list)) ≡ Err fault
    → (Err fault ≡ counted (tick_answer (state_of means a) (length (lent list))))
    × Steps means keeps a a (Tick (length (lent list)))
    × EventsAfter list (tick_answer (state_of means a) (length (lent list))) list
tick_refused means keeps a list fault e = (
  ap counted (sym e),
  refused means keeps a a (Tick (length (lent list))) fault (ap (answered (λ xs. Ticked (written xs))) e) refl refl refl,
  unwritten list (tick_answer (state_of means a) (length (lent list))) fault e,
)
