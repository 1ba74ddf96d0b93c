-- Numbers below a bound, functions changed at one place, and lists of events.
use Rattle.std.proofs.Common.{◌≡◌, ℕ, zero, suc, ◌+◌, ◌-◌, ◌<◌, Bool, true, false, cond, eqb, List, [], ◌∷◌, ◌++◌, length, replicate, is_some, Some, None, Option, refl, ap, ◌∙◌, subst, ⊎_elim, arith}
use Rattle.std.proofs.lemmas.List.{take_at}
use Rattle.std.proofs.lemmas.Bool.{eq-eqb, ne_eqb, cases_eq, cond-true, cond-false, both_ways}
use Rattle.machine.specs.declared.event.Event.{Event}
use Rattle.machine.specs.declared.event.Event.TheVariants.{Switch}
use Rattle.machine.specs.Below.{or_else, first_below}
use Rattle.machine.specs.Entries.{written, events_of}
use Rattle.machine.specs.History.{Told, put, tell_event, tell_events, times}

-- None is no Some.
pub none_some : {X Y : Type 0} (x : X) → ◌≡◌ {A = Option X} None (Some x) → Y
none_some x e = let z : ◌≡◌ {A = ℕ} 0 1 = cc in absurd (omega arith)

-- What two equal Somes hold is equal.
pub some_same : {X : Type 0} (x y : X) → ◌≡◌ {A = Option X} (Some x) (Some y) → x ≡ y
some_same x y e = cc

-- A controller that is not busy is idle.
pub no_busy : (o : Option ℕ) → is_some o ≡ false → o ≡ None
no_busy None e = refl
no_busy (Some r) e = absurd (both_ways true e refl)

-- What stands at the changed place.
pub put_same : {X : Type 0} (i : ℕ) (x : X) (f : ℕ → X) (j : ℕ) → j ≡ i → put i x f j ≡ x
put_same i x f j e = cond-true (eqb j i) x (f j) (eq-eqb j i e)

-- What stands at every other place.
pub put_other : {X : Type 0} (i : ℕ) (x : X) (f : ℕ → X) (j : ℕ) → (j ≡ i → ⊥) → put i x f j ≡ f j
put_other i x f j n = cond-false (eqb j i) x (f j) (ne_eqb j i n)

-- ---- the first below a bound

-- What a search below n has found: none passes, or this one does.
Found : ℕ → (ℕ → Bool) → Option ℕ → Type 0
Found n p None = (i : ℕ) → i < n → p i ≡ false
Found n p (Some i) = (i < n) × (p i ≡ true)

-- The first below n is such.
first_is : (n : ℕ) (p : ℕ → Bool) → Found n p (first_below n p)
unfolding Found
first_is zero p = λ i h. absurd (omega arith)
first_is (suc n) p = go (first_below n p) (first_is n p) (p n) refl
  where
    go : (o : Option ℕ) → Found n p o → (b : Bool) → p n ≡ b → Found (suc n) p (or_else o (cond b (Some n) None))
    go (Some i) (l, t) b e = (omega arith, t)
    go None f true e = (omega arith, e)
    go None f false e = λ i h. ⊎_elim (λ (k : i ≡ n). ap p k ∙ e) (λ (k : i ≡ n → ⊥). f i (omega arith)) (cases_eq i n)

-- The first that passes is below the bound, and passes.
pub first_some : (n : ℕ) (p : ℕ → Bool) (i : ℕ) → first_below n p ≡ Some i → (i < n) × (p i ≡ true)
unfolding Found
first_some n p i e = subst (Found n p) e (first_is n p)

-- Where there is no first, none passes.
pub first_none : (n : ℕ) (p : ℕ → Bool) → first_below n p ≡ None → (i : ℕ) → i < n → p i ≡ false
unfolding Found
first_none n p e = subst (Found n p) e (first_is n p)

-- Where none passes, there is no first.
pub none_first : (n : ℕ) (p : ℕ → Bool) → ((i : ℕ) → i < n → p i ≡ false) → first_below n p ≡ None
none_first n p f = go (first_below n p) refl
  where
    go : (o : Option ℕ) → first_below n p ≡ o → first_below n p ≡ None
    go None e = e
    go (Some i) e = let (l, t) = first_some n p i e in absurd (both_ways (p i) (f i l) t)

-- Where one passes, there is a first.
pub some_first : (n : ℕ) (p : ℕ → Bool) (i : ℕ) → i < n → p i ≡ true → (k : ℕ) × (first_below n p ≡ Some k)
some_first n p i l t = go (first_below n p) refl
  where
    go : (o : Option ℕ) → first_below n p ≡ o → (k : ℕ) × (first_below n p ≡ Some k)
    go None e = absurd (both_ways (p i) (first_none n p e i l) t)
    go (Some k) e = (k, e)

-- ---- lists of events

-- What was written is read back.
pub read_back : (es : List Event) → events_of (written es) ≡ es
read_back es = take_at es (replicate (17 - length es) Switch) (length es) refl

-- What two lists of events tell, one after the other.
pub tell_append : (h : Told) (xs ys : List Event) → tell_events h (xs ++ ys) ≡ tell_events (tell_events h xs) ys
tell_append h [] ys = refl
tell_append h (x ∷ xs) ys = tell_append (tell_event h x) xs ys

-- How many times an event is in two lists, one after the other.
pub times_append : (e : Event) (xs ys : List Event) → times e (xs ++ ys) ≡ times e xs + times e ys
times_append e [] ys = omega arith
times_append e (x ∷ xs) ys = omega (arith, times_append e xs ys)
