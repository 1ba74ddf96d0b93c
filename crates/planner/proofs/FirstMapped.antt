-- What `find_map` gives over the numbers below a count.
use Rattle.std.proofs.Common.{◌≡◌, ℕ, ◌+◌, ◌<◌, Some, None, Option, sym, ap, ◌∙◌, zero-add, arith}
use Rattle.std.specs.Bool.{IsTrue}
use Rattle.std.specs.Fn.{Called, Mut}
use Rattle.std.specs.Iterator.Runs.{Run, AllItemsGive, CallKeepsClosure, IsFirstToGive, ItemsCountUp}
use Rattle.std.specs.Option.{MatchOption}
use Rattle.std.proofs.lemmas.Iterator.Adapters.{option_map_id}

-- none came for each number, or the first that came is given
abbrev pub FirstBelow : {B : Type 0} → (ℕ → Option B → Type 0) → ℕ → Option B → Type 0
FirstBelow Gives n None = (k : ℕ) → k < n → Gives k None
FirstBelow Gives n (Some y) = (i : ℕ) × (i < n) × Gives i (Some y) × ((k : ℕ) → k < i → Gives k None)

module _ {S F B : Type 0} {steps : S → Option ℕ → S → Type 0} {g : Mut F (ℕ × Unit {0}) (Option B)} {f : F} {s : S}
    (n : ℕ) (Gives : ℕ → Option B → Type 0) (counts : (p : Run steps) → p.from ≡ s → ItemsCountUp p 0 n)
    (keeps : CallKeepsClosure g f) (gives : (k : ℕ) (r : Option B) → Called g f (k, tt) r f → Gives k r) where
  at : (p : Run steps) → p.from ≡ s → (k : ℕ) → k < p.len → p.at k ≡ Some k
  at p from k l = sym (option_map_id (p.at k)) ∙ ((counts p from).3 k l ∙ ap (λ x. Some x) (zero-add k))

  pub first_mapped
      : (r : Option B)
      → (p : Run steps) × (p.from ≡ s) × MatchOption r (IsTrue p.whole × AllItemsGive p g f None)
      (λ y. (i : ℕ) × (i < p.len) × (p.len ≡ i + 1) × IsFirstToGive p g f (Some y) None i)
      → FirstBelow Gives n r
  first_mapped None (p, from, (whole, all)) =
      λ k l. gives k None (rw (at p from k (omega (arith, (counts p from).1 whole))) at (all keeps k))
  first_mapped (Some y) (p, from, (i, l, long, first)) = (
    i,
    omega (arith, (counts p from).0),
    gives i (Some y) (rw (at p from i l) at (first keeps).0),
    λ k h. gives k None (rw (at p from k (omega arith)) at ((first keeps).1 k h)),
  )
