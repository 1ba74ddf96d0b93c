-- Rows placed one after the other on controllers tried from 0 upward, each found by the search over instants.
use Rattle.std.proofs.Common.{◌≡◌, ℕ, ◌<◌, ◌≤◌, ◌⊎◌, List, [], ◌∷◌, ◌++◌, length, Some, None, sym, refl, ap, ◌∙◌, inl, inr, subst}
use Rattle.std.specs.List.{slice_get}
use Rattle.std.proofs.lemmas.List.{map-append}
use Rattle.policies.specs.Meanings.{front_means}
use Rattle.policies.specs.Orders.{upward}
use Rattle.policies.specs.declared.front.Front.{Front}
use Rattle.planner.specs.Placing.{PlacedAs}
use Rattle.planner.specs.Planning.{Placed, told_of}
use Rattle.planner.specs.Rows.{no_start}
use Rattle.planner.specs.declared.row.Row.{Row}
use Rattle.planner.proofs.Places.{nth_push}
use Rattle.planner.proofs.Rows.{placed_more}
use Rattle.machine.specs.Below.{first_below}
use Rattle.machine.proofs.Basics.{none_some}
use Rattle.trials.specs.Trials.{tasks_of}
use Rattle.trials.proofs.ByInstants.{critical_as, everyday_as, least, takes}

-- telling the policy changes nothing
same : (p : Front) (rows : List Row) → told_of front_means p rows ≡ p
same p [] = refl
same p (row ∷ rows) = same p rows

module _ (m : ℕ) where
  -- these rows are how their tasks are placed, and each turns
  pub record Built (rows : List Row) : Type 0 where
    pub placed : (p : Front) → front_means.count p ≡ m → Placed front_means p (tasks_of rows) rows
    pub turns : (i : ℕ) (row : Row) → slice_get rows i ≡ Some row → 1 ≤ row.task.period

  pub none : Built []
  none = record { placed = λ p e. record { long = refl; each = λ i task row f g. none_some task f }; turns = λ i row e. none_some row e }

  more : (rows : List Row) (row : Row) → Built rows → 1 ≤ row.task.period → PlacedAs (upward m) rows row.task row → Built (rows ++ (row ∷ []))
  more rows row built turns as' = record {
    placed = λ p e.
        let ordered = ap (λ q. front_means.order q row.task.level) (same p rows) ∙ ap upward e in
        let here = subst (λ order. PlacedAs order rows row.task row) (sym ordered) as' in
        subst (λ tasks. Placed front_means p tasks (rows ++ (row ∷ []))) (sym (map-append (λ (r : Row). r.task) rows (row ∷ [])))
        (placed_more front_means p (tasks_of rows) rows row.task row (built.placed p e) here);
    turns = λ i other e. go i other (nth_push rows row i other e);
  }
    where
      go : (i : ℕ) (other : Row) → ((i < length rows) × (slice_get rows i ≡ Some other)) ⊎ ((i ≡ length rows) × (row ≡ other)) → 1 ≤ other.task.period
      go i other (inl (l, e)) = built.turns i other e
      go i other (inr (l, e)) = subst (λ (r : Row). 1 ≤ r.task.period) e turns

  module _ (rows : List Row) (built : Built rows) (row : Row) (turns : 1 ≤ row.task.period) (k : ℕ) (at : slice_get (upward m) k ≡ Some row.controller)
      (before : first_below k (λ j. takes rows row.task (slice_get (upward m) j)) ≡ None)
      (first : least row.controller 0 rows row.task ≡ Some row.starts.everyday) where
    -- an everyday task more
    pub then_everyday : row.task.level ≡ 0 → row.starts.critical ≡ no_start → Built (rows ++ (row ∷ []))
    then_everyday level blank =
        more rows row built turns (everyday_as rows row.task (turns, built.turns) (upward m) row refl k at before first level blank)

    -- a critical one more
    pub then_critical : row.task.level ≡ 1 → least row.controller 1 rows row.task ≡ Some row.starts.critical → Built (rows ++ (row ∷ []))
    then_critical level second =
        more rows row built turns (critical_as rows row.task (turns, built.turns) (upward m) row refl k at before first level second)
