-- What stands at the places of a list.
use Rattle.std.proofs.Common.{◌≡◌, ℕ, zero, suc, ◌+◌, ◌<◌, ◌≤◌, ◌⊎◌, List, [], ◌∷◌, ◌++◌, length, get_or, take, Some, sym, refl, ◌∙◌, inl, inr, arith}
use native.Mathlib.Decide.{dec_le}
use Rattle.std.specs.List.{slice_get}
use Rattle.std.proofs.lemmas.List.{length_push, length-take, get_or_push, get_or_append_left}
use Rattle.std.proofs.lemmas.Option.{get_or_from_slice_get, slice_get-get_or, slice_get_within}
use Rattle.tasks.specs.declared.task.Task.{Task}
use Rattle.planner.specs.Rows.{no_row}

-- the task that the check has past the end of a list
abbrev pub no_task : Task
no_task = no_row.task

-- what stands in a list with one more at its end
pub nth_push
    : {X : Type 0} (xs : List X) (y : X) (i : ℕ) (x : X)
    → slice_get (xs ++ y ∷ []) i ≡ Some x
    → ((i < length xs) × (slice_get xs i ≡ Some x)) ⊎ ((i ≡ length xs) × (y ≡ x))
nth_push xs y i x e = go (dec_le (length xs) i)
  where
    inside : i < length xs + 1
    inside = omega (arith, slice_get_within (xs ++ y ∷ []) i x e, length_push xs y)

    is : get_or (xs ++ y ∷ []) i x ≡ x
    is = get_or_from_slice_get (xs ++ y ∷ []) i x x e

    go : Dec (length xs ≤ i) → ((i < length xs) × (slice_get xs i ≡ Some x)) ⊎ ((i ≡ length xs) × (y ≡ x))
    go (yes h) =
        let last : i ≡ length xs = omega (arith, inside) in
        let pushed = get_or_push xs y x i (sym last) in
        inr (last, cc is)
    go (no h) =
        let l : i < length xs = omega arith in
        let same = get_or_append_left xs (y ∷ []) x i l in
        let there = slice_get-get_or xs i x l in
        inl (l, cc is)

-- the front of a list has what stands there
pub nth_take : {X : Type 0} (n : ℕ) (xs : List X) (k : ℕ) → k < n → slice_get (take n xs) k ≡ slice_get xs k
nth_take zero xs k h = absurd (omega arith)
nth_take (suc n) [] k h = refl
nth_take (suc n) (x ∷ xs) zero h = refl
nth_take (suc n) (x ∷ xs) (suc k) h = nth_take n xs k (omega arith)

-- and nothing else
pub nth_front : {X : Type 0} (n : ℕ) (xs : List X) (k : ℕ) (x : X) → slice_get (take n xs) k ≡ Some x → slice_get xs k ≡ Some x
nth_front n xs k x e =
    let l : k < n = omega (arith, slice_get_within (take n xs) k x e, length-take n xs) in
    sym (nth_take n xs k l) ∙ e
