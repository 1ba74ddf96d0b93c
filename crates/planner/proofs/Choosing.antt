-- The steps of a try of the controllers in an order.
use Rattle.std.proofs.Common.{◌≡◌, ℕ, zero, suc, ◌<◌, ◌≤◌, List, get_or, Some, None, Option, sym, refl, subst, arith}
use Rattle.std.specs.List.{slice_get}
use Rattle.std.specs.Option.{MatchOption}
use Rattle.std.proofs.lemmas.Option.{slice_get-get_or, slice_get_within}
use Rattle.policies.specs.Orders.{Arrangement}
use Rattle.tasks.specs.Tasks.{Belongs}
use Rattle.tasks.specs.declared.task.Task.{Task}
use Rattle.planner.specs.Placing.{Clear, Least, PlacedOn}
use Rattle.planner.specs.Rows.{no_start, start}
use Rattle.planner.specs.Searching.{ChosenAs, TakenAs}
use Rattle.planner.specs.declared.row.Row.{Row}
use Rattle.planner.proofs.FirstMapped.{FirstBelow}

module _ (c : ℕ) (placed : List Row) (task : Task) (everyday critical : ℕ) where
  -- the row that a try of the controller makes
  abbrev made : Row
  made = record { task = task; controller = c; starts = record { everyday = everyday; critical = critical } }

  pub placed_here
      : task.level ≤ 1
      → Least (Clear c 0 placed task) everyday
      → (1 ≤ task.level → Least (Clear c 1 placed task) critical)
      → (task.level < 1 → critical ≡ no_start)
      → PlacedOn c placed task made
  placed_here h first second none = record { holds = refl; there = refl; starts = starts; blank = blank }
    where
      starts : (mode : ℕ) → Belongs task mode → Least (Clear c mode placed task) (start made mode)
      starts zero b = first
      starts (suc zero) b = second b
      starts (suc (suc n)) b = absurd (omega arith)

      blank : (mode : ℕ) → task.level < mode → start made mode ≡ no_start
      blank zero l = absurd (omega arith)
      blank (suc zero) l = none l
      blank (suc (suc n)) l = refl

-- what the place k of an order gives: what a try of the controller there answers, and none past its end
abbrev pub TriedAt : List ℕ → List Row → Task → ℕ → Option Row → Type 0
TriedAt order placed task k r = MatchOption (slice_get order k) (r ≡ None) (λ c. TakenAs c placed task r)

module _ (m : ℕ) (order : List ℕ) (placed : List Row) (task : Task) (arranged : Arrangement m order) where
  -- what the first place that gives a row gives, where the order leaves out no controller
  pub chosen : (r : Option Row) → FirstBelow (TriedAt order placed task) m r → ChosenAs m order placed task r
  chosen None none = λ c l.
      let (k, at) = arranged.whole c l in
      rw at at (none k (omega (arith, slice_get_within order k c at, arranged.long)))
  chosen (Some row) (k, l, here, before) =
      let at : slice_get order k ≡ Some (get_or order k 0) = slice_get-get_or order k 0 (omega (arith, arranged.long)) in
      let on : PlacedOn (get_or order k 0) placed task row = rw at at here in
      let At : ℕ → Type 0 = λ c. (slice_get order k ≡ Some c) × PlacedOn c placed task row in
      let (there, placed_on) = subst At (sym on.there) (at, on) in
      record {
        first = (k, there, (λ mode b. (start row mode, (placed_on.starts mode b).0)), λ j c h e. rw e at (before j h));
        on = placed_on;
      }

-- what was answered for a task and rows, of those that they are
pub answered
    : (m : ℕ) (order : ℕ → List ℕ) {placed rows : List Row} {task t : Task} {r s : Option Row}
    → ChosenAs m (order task.level) placed task r
    → placed ≡ rows
    → task ≡ t
    → r ≡ s → ChosenAs m (order t.level) rows t s
answered m order {placed} {rows} {task} {t} {r} {s} h p e q =
    let A : Option Row → Type 0 = λ x. ChosenAs m (order t.level) rows t x in
    let B : Task → Type 0 = λ x. ChosenAs m (order x.level) rows x r in
    let C : List Row → Type 0 = λ x. ChosenAs m (order task.level) x task r in
    subst A q (subst B e (subst C p h))
