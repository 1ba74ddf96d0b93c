-- So many different numbers, each below so many, leave out none.
use Rattle.std.specs.Prelude.{◌≡◌, ℕ, ◌<◌, true, false, List, [], ◌∷◌, ◌++◌, length, ◌==◌, ◌⊎◌, ◌≢◌}
use Rattle.std.proofs.Common.{sym, ◌∙◌, inl, inr, get_or, arith, length-append}
use Rattle.std.specs.List.{list_any}
use Rattle.std.specs.Cmp.{nat_eq_equiv}
use Rattle.std.proofs.Math.Bool.{or-false}
use Rattle.std.proofs.lemmas.Bool.{cases_Bool, or_cases, eqb-true}
use Rattle.std.proofs.lemmas.Bool.Decides.{Decides-eqb}
use Rattle.std.proofs.lemmas.List.Folds.{Any-from_list_any, list_any-append}
use Rattle.std.proofs.lemmas.List.FromFn.{get_or-map-range_with_len, length-map-range_with_len}
use Rattle.std.proofs.lemmas.Map.Keys.{IsDistinct-push}
use Rattle.std.proofs.lemmas.Map.Made.{IsDistinct-from_AllPairs}
use Rattle.std.proofs.lemmas.Map.Steps.{length-le_from_distinct_below}
use Rattle.policies.specs.Orders.{by_place}

-- n different numbers below n are all of them
pub none_left_out
    : (n : ℕ) (f : ℕ → ℕ)
    → ((k : ℕ) → k < n → f k < n)
    → ((j k : ℕ) → j < k → k < n → f j ≢ f k)
    → (c : ℕ) → c < n → (k : ℕ) × (k < n) × (f k ≡ c)
none_left_out n f below apart c h = go (cases_Bool (list_any (λ y. c == y) all))
  where
    all : List ℕ
    all = by_place n f

    long : length all ≡ n
    long = length-map-range_with_len f 0 n

    at : (k d : ℕ) → k < n → get_or all k d ≡ f k
    at k d l = get_or-map-range_with_len f 0 n k k d l (omega arith)

    inside : (k : ℕ) → k < length all → k < n
    inside k l = omega (arith, long)

    -- a number that stands in the list is at some place
    place : (x : ℕ) → list_any (λ y. x == y) all ≡ true → (k : ℕ) × (k < n) × (f k ≡ x)
    place x e =
        let (k, y, l, is, same) = Any-from_list_any (λ y. x == y) all e in
        (k, inside k l, sym (at k y (inside k l)) ∙ is ∙ sym (eqb-true x y same))

    -- one number more would be below n too, where none is left
    one_more : list_any (λ y. c == y) all ≡ false → (x : ℕ) → list_any (λ y. x == y) (all ++ c ∷ []) ≡ true → x < n
    one_more none x e = case (or_cases _ _ (sym (list_any-append (λ y. x == y) all (c ∷ [])) ∙ e))
      where
        case : (list_any (λ y. x == y) all ≡ true) ⊎ (list_any (λ y. x == y) (c ∷ []) ≡ true) → x < n
        case (inl old) = let (k, l, is) = place x old in let b = below k l in omega arith
        case (inr new) = let is : x ≡ c = eqb-true x c (sym (or-false (x == c)) ∙ new) in omega arith

    go : (list_any (λ y. c == y) all ≡ true) ⊎ (list_any (λ y. c == y) all ≡ false) → (k : ℕ) × (k < n) × (f k ≡ c)
    go (inl e) = place c e
    go (inr none) =
        let distinct =
        IsDistinct-push nat_eq_equiv all c
        (IsDistinct-from_AllPairs Decides-eqb all (λ j k d l m e. apart j k l (inside k m) (sym (at j d (omega (arith, inside k m))) ∙ e ∙ at k d (inside k m))))
        none in
        let few = length-le_from_distinct_below (all ++ c ∷ []) n distinct (one_more none) in
        absurd (omega (arith, few, long, length-append all (c ∷ [])))
