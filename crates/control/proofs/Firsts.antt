-- What a method that looks for the first gives is the first below a bound.
use Rattle.std.proofs.Common.{◌≡◌, ℕ, ◌+◌, ◌<◌, Bool, true, false, List, length, get_or, is_some, Some, None, Option, Bor, sym, ap, ◌∙◌, ap₂, cond, ◌⊎◌, inl, inr, zero, suc, zero-add, arith}
use Rattle.std.specs.Bool.{IsTrue, MatchBool}
use Rattle.std.specs.Fn.{Called, CalledAt, Mut}
use Rattle.std.specs.Iterator.Runs.{Run, AnyItemGives, AllItemsGive, IsFirstToGive, NoItemPasses, EndsAtFirstPassing, CallKeepsClosure, ItemsCountUp, ItemsMapTo}
use Rattle.std.specs.List.{slice_get}
use Rattle.std.specs.Option.{MatchOption, IfSome, IsSomeAnd, option_map}
use Rattle.std.proofs.lemmas.Iterator.Adapters.{option_map_id}
use Rattle.std.proofs.lemmas.Option.{slice_get-get_or}
use Rattle.machine.specs.Below.{or_else, first_below}
use Rattle.machine.proofs.Basics.{none_first, none_some, some_first, some_same}
use Rattle.std.proofs.lemmas.Bool.{cases_eq}

-- none so far, and the next one: it is the first below any bound above it
first_here : (m n : ℕ) (p : ℕ → Bool) → n < m → first_below n p ≡ None → p n ≡ true → first_below m p ≡ Some n
first_here zero n p l e t = absurd (omega arith)
first_here (suc m) n p l e t = go (λ k. first_here m n p k e t) (cases_eq n m)
  where
    go : (n < m → first_below m p ≡ Some n) → (n ≡ m) ⊎ (n ≡ m → ⊥) → first_below (suc m) p ≡ Some n
    go below (inl k) = rw (← k) (ap₂ (λ (o : Option ℕ) (b : Bool). or_else o (cond b (Some n) None)) e t)
    go below (inr k) = ap (λ (o : Option ℕ). or_else o (cond (p m) (Some m) None)) (below (omega arith))

-- one passes, and none before it does
first_at : (n i : ℕ) (p : ℕ → Bool) → i < n → p i ≡ true → ((k : ℕ) → k < i → p k ≡ false) → first_below n p ≡ Some i
first_at n i p l t before = first_here n i p l (none_first i p before) t

-- a search over the numbers below n
module _ {S : Type 0} {steps : S → Option ℕ → S → Type 0} (r : Run steps) (n : ℕ) (p : ℕ → Bool) (counts : ItemsCountUp r 0 n) where
  at : (k : ℕ) → k < r.len → r.at k ≡ Some k
  at k l = sym (option_map_id (r.at k)) ∙ (counts.3 k l ∙ ap (λ x. Some x) (zero-add k))

  module _ {F : Type 0} {g : Mut F (ℕ × Unit {0}) Bool} {f : F} (keeps : CallKeepsClosure g f)
      (gives : (k : ℕ) (b : Bool) → Called g f (k, tt) b f → b ≡ p k) where
    pub any_below : (b : Bool) → MatchBool b (AnyItemGives r g f true) (IsTrue r.whole × AllItemsGive r g f false) → b ≡ is_some (first_below n p)
    any_below true any =
        let (i, l, called) = any keeps in
        let here = sym (gives i true (rw (at i l) at called)) in
        let (k, e) = some_first n p i (omega (arith, counts.0)) here in
        sym (ap is_some e)
    any_below false (whole, all) =
        sym (ap is_some (none_first n p (λ k l. sym (gives k false (rw (at k (omega (arith, counts.1 whole))) at (all keeps k))))))

  module _ {F : Type 0} {g : Mut F (Bor ℕ × Unit {0}) Bool} {f : F} (keeps : CallKeepsClosure g f)
      (gives : (k : ℕ) (b : Bool) → CalledAt g f k b f → b ≡ p k) where
    pub find_below : (o : Option ℕ) → MatchOption o (IsTrue r.whole × NoItemPasses r g f) (EndsAtFirstPassing r g f) → o ≡ first_below n p
    find_below None (whole, none) =
        sym (none_first n p (λ k l. sym (gives k false (rw (at k (omega (arith, counts.1 whole))) at (none keeps k)))))
    find_below (Some x) (i, long, here, calls) =
        let l : i < r.len = omega (arith, long) in
        let x-is : x ≡ i = some_same x i (sym here ∙ at i l) in
        let (hit, before) = calls keeps in
        ap Some x-is
        ∙ sym (first_at n i p (omega (arith, counts.0)) (sym (gives i true (rw x-is at hit)))
        (λ k h. sym (gives k false (rw (at k (omega arith)) at (before k h)))))

some : {Y : Type 0} (o : Option Y) (P : Y → Type 0) → IsSomeAnd o P → IfSome o P
some None P h = absurd h
some (Some y) P h = h

-- a search over the elements of a list
module _ {X : Type 0} (xs : List X) (d : X) (test : Option X → Bool) {S : Type 0} {steps : S → Option (Bor X) → S → Type 0} (r : Run steps)
    (reads : ItemsMapTo r (λ y. y.now) xs) {F : Type 0} {g : Mut F (Bor X × Unit {0}) Bool} {f : F} (keeps : CallKeepsClosure g f)
    (gives : (y : Bor X) (b : Bool) → Called g f (y, tt) b f → b ≡ test (Some y.now)) where
  abbrev pub p : ℕ → Bool
  p k = test (slice_get xs k)

  one : (b : Bool) (k : ℕ) → k < r.len → IfSome (r.at k) (λ y. Called g f (y, tt) b f) → p k ≡ b
  one b k l called = go (r.at k) (reads.2 k d l) called
    where
      stands : slice_get xs k ≡ Some (get_or xs k d)
      stands = slice_get-get_or xs k d (omega (arith, reads.0))

      go : (o : Option (Bor X)) → option_map (λ y. y.now) o ≡ Some (get_or xs k d) → IfSome o (λ y. Called g f (y, tt) b f) → p k ≡ b
      go None e c = none_some (get_or xs k d) e
      go (Some y) e c = ap test (stands ∙ sym e) ∙ sym (gives y b c)

  pub position_is : (o : Option ℕ) → MatchOption o (IsTrue r.whole × AllItemsGive r g f false) (λ i. (r.len ≡ i + 1) × IsFirstToGive r g f true false i) → o ≡ first_below (length xs) p
  position_is None (whole, all) = sym (none_first (length xs) p (λ k l. one false k (omega (arith, reads.1 whole)) (all keeps k)))
  position_is (Some i) (long, first) =
      let (hit, before) = first keeps in
      sym (first_at (length xs) i p (omega (arith, long, reads.0)) (one true i (omega (arith, long)) (some (r.at i) _ hit))
      (λ k h. one false k (omega (arith, long)) (some (r.at k) _ (before k h))))

-- what a call that answers its number gives of what was found
pub same_number : (o m : Option ℕ) (P : ℕ → ℕ → Type 0) → MatchOption o (m ≡ None) (λ x. IsSomeAnd m (P x)) → ((x y : ℕ) → P x y → y ≡ x) → m ≡ o
same_number None m P e same = e
same_number (Some x) None P h same = absurd h
same_number (Some x) (Some y) P h same = ap Some (same x y h)
