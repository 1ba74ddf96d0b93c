-- The busy controllers, as the bench counts them and as the machine does.
use Rattle.std.proofs.Common.{◌≡◌, ℕ, zero, suc, ◌+◌, Bool, true, false, cond, [], ◌∷◌, length, get_or, is_some, Some, None, Option, sym, refl, ap, ◌∙◌, add-one, arith}
use Rattle.benches.specs.Commands.{States}
use Rattle.benches.specs.Sets.{busy_count, lowest_busy, lowest_from, one_if_busy, one_up}
use Rattle.machine.specs.Below.{count_below, first_below, or_else}

-- whether a controller is busy
abbrev is_busy : States → ℕ → Bool
is_busy states c = is_some (get_or states c None)

-- the first below a bound is number 0, or the first of the rest
first_shift : (n : ℕ) (p : ℕ → Bool) → first_below (suc n) p ≡ cond (p 0) (Some 0) (one_up (first_below n (λ c. p (suc c))))
first_shift zero p = refl
first_shift (suc n) p =
    ap (λ (o : Option ℕ). or_else o (cond (p (suc n)) (Some (suc n)) None)) (first_shift n p)
    ∙ go (p 0) (first_below n (λ c. p (suc c))) (p (suc n))
  where
    go
        : (b : Bool) (o : Option ℕ) (t : Bool)
        → or_else (cond b (Some 0) (one_up o)) (cond t (Some (suc n)) None) ≡ cond b (Some 0) (one_up (or_else o (cond t (Some n) None)))
    go true o t = refl
    go false (Some i) t = refl
    go false None true = ap (λ (i : ℕ). Some i) (sym (add-one n))
    go false None false = refl

count_shift : (n : ℕ) (p : ℕ → Bool) → count_below (suc n) p ≡ cond (p 0) 1 0 + count_below n (λ c. p (suc c))
count_shift zero p = omega arith
count_shift (suc n) p = omega (arith, count_shift n p)

pub lowest_is : (states : States) → lowest_busy states ≡ first_below (length states) (is_busy states)
lowest_is [] = refl
lowest_is (state ∷ states) =
    ap (lowest_from state) (lowest_is states)
    ∙ go state (first_below (length states) (is_busy states))
    ∙ sym (first_shift (length states) (is_busy (state ∷ states)))
  where
    go : (o r : Option ℕ) → lowest_from o r ≡ cond (is_some o) (Some 0) (one_up r)
    go None r = refl
    go (Some x) r = refl

pub count_is : (states : States) → busy_count states ≡ count_below (length states) (is_busy states)
count_is [] = refl
count_is (state ∷ states) =
    omega (arith, count_is states, go state, count_shift (length states) (is_busy (state ∷ states)))
  where
    go : (o : Option ℕ) → one_if_busy o ≡ cond (is_some o) 1 0
    go None = refl
    go (Some x) = refl
