-- How a load is answered, and what it leaves.
use Rattle.std.proofs.Common.{◌≡◌, ℕ, Bool, cond, eqb, List, length, replicate, Ok, Err, Result, sym, refl, ap, ◌∙◌}
use Rattle.std.proofs.lemmas.Bool.{cond-true, cond-false, eq-eqb, ne_eqb}
use Rattle.tasks.specs.declared.fault.ControlFault.{ControlFault}
use Rattle.tasks.specs.declared.fault.ControlFault.TheVariants.{Busy, Counts, Loaded}
use Rattle.benches.specs.Commands.{States}
use Rattle.planner.specs.Plans.{rows_of}
use Rattle.planner.specs.declared.plans.Plan.{Plan}
use Rattle.planner.specs.declared.row.Row.{Row}
use Rattle.machine.specs.Machine.{State, by_result, fresh, load_answer, none_yet, some_busy}
use Rattle.machine.specs.declared.entry.Counts.{Counts as Tally}
use Rattle.control.specs.Calls.{Loads}
use Rattle.control.specs.States.{state_of}
use Rattle.control.specs.declared.control.Control.{Control}

module _ (s : State) (m : ℕ) where
  abbrev Answer : Type 0
  Answer = Result (Unit {0}) ControlFault

  -- the checks after the first, after the second and after the third
  abbrev idle : Answer
  idle = cond (some_busy s) (Err Busy) (Ok tt)

  abbrev same : Answer
  same = cond (eqb m (length s.shows)) idle (Err Counts)

  abbrev some : Answer
  some = cond (eqb m 0) (Err Counts) same

  pub load_again : (s.controllers ≡ 0 → ⊥) → load_answer s m ≡ Err Loaded
  load_again n = cond-false (eqb s.controllers 0) some (Err Loaded) (ne_eqb s.controllers 0 n)

  module _ (first : s.controllers ≡ 0) where
    after_first : load_answer s m ≡ some
    after_first = cond-true (eqb s.controllers 0) some (Err Loaded) (eq-eqb s.controllers 0 first)

    module _ (n : m ≡ 0 → ⊥) where
      after_second : load_answer s m ≡ same
      after_second = after_first ∙ cond-false (eqb m 0) (Err Counts) same (ne_eqb m 0 n)

      pub load_other : (m ≡ length s.shows → ⊥) → load_answer s m ≡ Err Counts
      load_other d = after_second ∙ cond-false (eqb m (length s.shows)) idle (Err Counts) (ne_eqb m (length s.shows) d)

      pub load_by : m ≡ length s.shows → (b : Bool) → some_busy s ≡ b → load_answer s m ≡ cond b (Err Busy) (Ok tt)
      load_by e b is =
          after_second
          ∙ cond-true (eqb m (length s.shows)) idle (Err Counts) (eq-eqb m (length s.shows) e)
          ∙ ap (λ (x : Bool). cond {A = Answer} x (Err Busy) (Ok tt)) is

-- tables with nothing in them, and all else at its beginning
pub freshened
    : (m : ℕ) (rows : List Row) (shows : States) {since : List ℕ} {counts : List Tally} → since ≡ replicate 8 0 → counts ≡ replicate 64 none_yet
    → ◌≡◌ {A = State} (record { controllers = m; rows = rows; mode = 0; opening = 0; next = 0; shows = shows; since = since; counts = counts }) (fresh m rows shows)
freshened m rows shows e f =
    λ i. record { controllers = m; rows = rows; mode = 0; opening = 0; next = 0; shows = shows; since = e i; counts = f i }

module _ {B : Type 0} (means : B → States) (a b : Control B) (plan : Plan) where
  -- a refused load leaves all as it was
  pub unloaded : (fault : ControlFault) → load_answer (state_of means a) plan.controllers ≡ Err fault → Loads means a a plan
  unloaded fault e = record {
    state = sym (ap (λ (r : Result (Unit {0}) ControlFault). by_result r (fresh plan.controllers (rows_of plan) (means a.bench)) (state_of means a)) e);
    kept = sym (ap (λ (r : Result (Unit {0}) ControlFault). by_result r plan a.plan) e);
    bench = refl;
  }

  pub taken
      : load_answer (state_of means a) plan.controllers ≡ Ok tt → state_of means b ≡ fresh plan.controllers (rows_of plan) (means a.bench)
      → b.plan ≡ plan → b.bench ≡ a.bench → Loads means a b plan
  taken e s p k = record {
    state = s ∙ sym (ap (λ (r : Result (Unit {0}) ControlFault). by_result r (fresh plan.controllers (rows_of plan) (means a.bench)) (state_of means a)) e);
    kept = p ∙ sym (ap (λ (r : Result (Unit {0}) ControlFault). by_result r plan a.plan) e);
    bench = k;
  }
