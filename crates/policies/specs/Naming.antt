-- When a list of names is an arrangement.
use Rattle.std.specs.Prelude.{◌≡◌, ℕ, ◌<◌, ◌⊎◌, ◌↔◌, List, length, Some, slice_index, refl}
use Rattle.std.proofs.Common.{sym, ap, subst, ◌∙◌, inl, inr, arith}
use Rattle.std.proofs.lemmas.List.FromFn.{fill_by_all}
use Rattle.std.proofs.lemmas.Option.{slice_get-get_or}
use Rattle.std.proofs.lemmas.Bool.{cases_order}
use Rattle.policies.specs.Names.{EachApart, EachBelow, EachOnce, named}
use Rattle.policies.specs.Orders.{Arrangement}
use Rattle.policies.specs.Arranged.{arranged_by}
use Rattle.policies.specs.Pigeonhole.{none_left_out}

-- as many names as there are controllers, which are below the count and differ, are an arrangement
pub named_arranged : (m : ℕ) (names : List ℕ) → EachBelow m m names → EachApart m names → Arrangement m (named m names)
named_arranged m names below apart =
    arranged_by (λ k. slice_index names k) m below (none_left_out m (λ k. slice_index names k) below apart)
    (λ j k h l e. same j k h l e (cases_order j k))
  where
    same : (j k : ℕ) → j < m → k < m → slice_index names j ≡ slice_index names k → (j ≡ k) ⊎ ((j < k) ⊎ (k < j)) → j ≡ k
    same j k h l e (inl is) = is
    same j k h l e (inr (inl a)) = absurd (apart j k a l e)
    same j k h l e (inr (inr a)) = absurd (apart k j a h (sym e))

-- names that are those of a list as long as the count are that list
pub named_list
    : (m : ℕ) (names list : List ℕ)
    → length list ≡ m
    → ((k : ℕ) → k < m → slice_index names k ≡ slice_index list k)
    → named m names ≡ list
named_list m names list long same = sym (fill_by_all (λ k. slice_index names k) list m 0 long (λ k l. sym (same k l)))

-- a list that names each number below its length once is an arrangement, and an arrangement is such a list
at_length : (list : List ℕ) → EachOnce list ↔ Arrangement (length list) list
at_length list = (
  λ (below, apart). rw (named_list (length list) list list refl (λ k l. refl)) at (named_arranged (length list) list below apart),
  λ a. (λ k l. a.within k (slice_index list k) (slice_get-get_or list k 0 l), twice a),
)
  where
    twice : Arrangement (length list) list → EachApart (length list) list
    twice a j k h l e =
        let z : j ≡ k = a.once j k (slice_index list k) (slice_get-get_or list j 0 (omega arith) ∙ ap (λ x. Some x) e) (slice_get-get_or list k 0 l) in
        omega arith

-- the same, for a list as long as the count
pub once_arranged : (m : ℕ) (list : List ℕ) → length list ≡ m → EachOnce list ↔ Arrangement m list
once_arranged m list long = let P : ℕ → Type 0 = λ n. EachOnce list ↔ Arrangement n list in subst P long (at_length list)
