-- The set of the busy controllers, one controller at a time, and its two counts.
use Rattle.std.proofs.Common.{◌≡◌, ℕ, zero, suc, ◌+◌, ◌*◌, ◌/◌, ◌%◌, ◌^◌, ◌<◌, ◌≤◌, Bool, true, false, [], ◌∷◌, length, take, is_some, Some, None, Option, ◌⊎◌, inl, inr, not, ◌==◌, sym, refl, ap, ◌∙◌, ap₂, pow-suc, add-one, arith}
use Rattle.std.specs.Bool.{then_some}
use lib.Bits.{bit_or}
use lib.Count.{ones, count_trailing_zeros, under, ones_cat, ones-ones}
use Rattle.std.proofs.lemmas.Nat.{or_comm, or_shifted, one_shl}
use Rattle.std.proofs.lemmas.List.{length-take-le}
use Rattle.std.proofs.lemmas.Bool.{cases_eq, eq-eqb, ne_eqb}
use Rattle.benches.specs.Commands.{States}
use Rattle.benches.specs.Sets.{one_if_busy, busy_set, busy_count, busy_at, lowest_busy, one_up}

-- bit i of a set, where controller i is busy
abbrev pub bit_at : Bool → ℕ → ℕ
bit_at false i = 0
bit_at true i = 2 ^ i

-- bit 0 is controller 0's
bit_at_zero : (s : Option ℕ) → bit_at (is_some s) 0 ≡ one_if_busy s
bit_at_zero None = refl
bit_at_zero (Some _) = refl

-- a bit one further up is worth twice as much
bit_at_suc : (b : Bool) (i : ℕ) → bit_at b (suc i) ≡ 2 * bit_at b i
bit_at_suc false i = refl
bit_at_suc true i = omega (arith, pow-suc 2 i)

-- the set of one controller more
set_suc : (m : States) (i : ℕ) → i < length m → busy_set (take (suc i) m) ≡ busy_set (take i m) + bit_at (busy_at m i) i
set_suc [] i h = absurd (omega arith)
set_suc (s ∷ m) zero h = omega (arith, bit_at_zero s)
set_suc (s ∷ m) (suc i) h = omega (arith, set_suc m i (omega arith), bit_at_suc (busy_at m i) i)

-- the same, with the sum as the code has it
pub set_more : (m : States) (i : ℕ) → i < length m → busy_set (take (i + 1) m) ≡ busy_set (take i m) + bit_at (busy_at m i) i
set_more m i h = ap (λ k. busy_set (take k m)) (add-one i) ∙ set_suc m i h

-- a controller adds 1 at most
bit_le : (s : Option ℕ) → one_if_busy s ≤ 1
bit_le None = omega arith
bit_le (Some _) = omega arith

-- a set has a bit for each controller
pub set_lt : (m : States) → busy_set m < 2 ^ length m
set_lt [] = omega arith
set_lt (s ∷ m) = omega (arith, set_lt m, pow-suc 2 (length m), bit_le s)

-- the set of the first controllers
pub set_take_lt : (m : States) (i : ℕ) → i ≤ length m → busy_set (take i m) < 2 ^ i
set_take_lt m i h = rw (length-take-le i m h) at (set_lt (take i m))

-- one bit more, as the code sets it
pub or_bit : (n i : ℕ) → n < 2 ^ i → i < 8 → bit_or n ((1 * 2 ^ i) % 2 ^ 8) ≡ n + 2 ^ i
or_bit n i h l =
    ap (bit_or n) (one_shl i 8 l) ∙ or_comm n (2 ^ i) ∙ ap (λ x. bit_or x n) one ∙ or_shifted 1 i n h ∙ omega arith
  where
    one : 2 ^ i ≡ 1 * 2 ^ i
    one = omega arith

-- a set as controller 0's bit and the rest
twice : (b n : ℕ) → b + 2 * n ≡ n * 2 ^ 1 + b
twice b n = omega arith

-- as many ones as busy controllers
pub ones_set : (m : States) → ones (busy_set m) ≡ busy_count m
ones_set [] = ones-ones 0
ones_set (None ∷ m) = ap ones (twice 0 (busy_set m)) ∙ ones_cat 1 (busy_set m) 0 (omega arith) ∙ ap₂ (λ (x y : ℕ). x + y) (ones_set m) (ones-ones 0) ∙ omega arith
ones_set (Some v ∷ m) = ap ones (twice 1 (busy_set m)) ∙ ones_cat 1 (busy_set m) 1 (omega arith) ∙ ap₂ (λ (x y : ℕ). x + y) (ones_set m) (ones-ones 1) ∙ omega arith

-- an empty set has no lowest
pub none_busy : (m : States) → busy_set m ≡ 0 → lowest_busy m ≡ None
none_busy [] h = refl
none_busy (None ∷ m) h = ap one_up (none_busy m (omega arith))
none_busy (Some v ∷ m) h = absurd (omega arith)

-- controller 0's bit and the rest, taken apart
half : (b n : ℕ) → b < 2 → ((b + 2 * n) % 2 ≡ b) × ((b + 2 * n) / 2 ≡ n)
half b n h = (omega arith, omega arith)

-- the lowest bit is the lowest busy controller's
pub lowest_is : (m : States) (k : ℕ) → length m ≤ k → 0 < busy_set m → lowest_busy m ≡ Some (count_trailing_zeros k (busy_set m))
unfolding count_trailing_zeros
lowest_is [] k l h = absurd (omega arith)
lowest_is (s ∷ m) zero l h = absurd (omega arith)
lowest_is (None ∷ m) (suc k) l h =
    let e = half 0 (busy_set m) (omega arith) in
    ap one_up (lowest_is m k (omega arith) (omega arith)) ∙ ap Some (add-one _ ∙ sym (ap₂ under e.0 (ap (count_trailing_zeros k) e.1)))
lowest_is (Some v ∷ m) (suc k) l h =
    let e = half 1 (busy_set m) (omega arith) in
    ap Some (sym (ap₂ under e.0 (ap (count_trailing_zeros k) e.1)))

-- the lowest busy controller, as the code finds it in the set
pub lowest_by_set : (m : States) → length m ≤ 8 → then_some (not (busy_set m == 0)) (count_trailing_zeros 8 (busy_set m)) ≡ lowest_busy m
lowest_by_set m few = go (cases_eq (busy_set m) 0)
  where
    go : (busy_set m ≡ 0) ⊎ (busy_set m ≡ 0 → ⊥) → then_some (not (busy_set m == 0)) (count_trailing_zeros 8 (busy_set m)) ≡ lowest_busy m
    go (inl e) = let empty = eq-eqb _ _ e in simp empty (sym (none_busy m e))
    go (inr d) = let some = ne_eqb _ _ d in simp some (sym (lowest_is m 8 few (omega arith)))
