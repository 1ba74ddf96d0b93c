-- That the orders of the policies hold each controller exactly once.
use Rattle.std.specs.Prelude.{◌≡◌, ℕ, ◌+◌, ◌-◌, ◌%◌, ◌<◌, ◌≤◌, Some, ◌==◌, refl}
use Rattle.std.proofs.Common.{sym, ap, ◌∙◌, mod-eq_of_lt, mod-lt, arith}
use Rattle.std.proofs.Math.Nat.{mod-add-mod, mod-eq-sub-mod}
use Rattle.std.proofs.Math.Decide.{dec_le}
use Rattle.std.proofs.lemmas.List.FromFn.{length-map-range_with_len}
use Rattle.std.proofs.lemmas.Bool.{cond_both}
use Rattle.policies.specs.Meanings.{front_means}
use Rattle.policies.specs.Policies.{Lawful}
use Rattle.policies.specs.Orders.{Arrangement, by_level, by_place, downward, round_from, upward}
use Rattle.policies.specs.Places.{nth_at, place_of}

-- an order by place is an arrangement where each place has a controller, each controller a place, and no two places the same
pub arranged_by
    : (f : ℕ → ℕ) (m : ℕ)
    → ((k : ℕ) → k < m → f k < m)
    → ((c : ℕ) → c < m → (k : ℕ) × (k < m) × (f k ≡ c))
    → ((j k : ℕ) → j < m → k < m → f j ≡ f k → j ≡ k)
    → Arrangement m (by_place m f)
arranged_by f m below place apart =
    record {
      within = λ k c e. let (l, is) = place_of f m k c e in let b = below k l in omega arith;
      whole = λ c h. let (k, l, is) = place c h in (k, nth_at f m k l ∙ ap (λ x. Some x) is);
      once = λ j k c d e. let (l, is) = place_of f m j c d in let (n, has) = place_of f m k c e in apart j k l n (is ∙ sym has);
      long = length-map-range_with_len f 0 m;
    }

pub upward_arranged : (m : ℕ) → Arrangement m (upward m)
upward_arranged m = arranged_by (λ k. k) m (λ k h. h) (λ c h. (c, h, refl)) (λ j k h l e. e)

pub downward_arranged : (m : ℕ) → Arrangement m (downward m)
downward_arranged m =
    arranged_by (λ k. m - 1 - k) m (λ k h. omega arith) (λ c h. (m - 1 - c, omega arith, omega arith)) (λ j k h l e. omega arith)

pub level_arranged : (level m : ℕ) → Arrangement m (by_level level m)
level_arranged level m =
    cond_both (level == 0) (downward m) (upward m) (Arrangement m) (λ _. downward_arranged m) (λ _. upward_arranged m)

module _ (first m : ℕ) (pos : 1 ≤ m) where
  -- before the end of the round
  ahead : (k : ℕ) → first % m + k < m → (first + k) % m ≡ first % m + k
  ahead k l = sym (mod-add-mod first m k) ∙ mod-eq_of_lt l

  -- past the end of the round
  again : (k : ℕ) → k < m → m ≤ first % m + k → (first + k) % m ≡ first % m + k - m
  again k h l =
      let s : first % m < m = mod-lt first pos in
      let b : first % m + k - m < m = omega arith in
      sym (mod-add-mod first m k) ∙ (mod-eq-sub-mod l ∙ mod-eq_of_lt b)

  -- where a controller stands
  pub turn_of : (c : ℕ) → c < m → (k : ℕ) × (k < m) × ((first + k) % m ≡ c)
  turn_of c h = go (dec_le (first % m) c)
    where
      s : first % m < m
      s = mod-lt first pos

      go : Dec (first % m ≤ c) → (k : ℕ) × (k < m) × ((first + k) % m ≡ c)
      go (yes l) = let e = ahead (c - first % m) (omega arith) in (c - first % m, omega arith, omega (arith, e))
      go (no l) =
          let b : first % m < m = s in
          let e = again (c + m - first % m) (omega arith) (omega arith) in
          (c + m - first % m, omega arith, omega (arith, e))

  -- no two places have the same
  pub turns_apart : (j k : ℕ) → j < m → k < m → (first + j) % m ≡ (first + k) % m → j ≡ k
  turns_apart j k h l e = go (dec_le m (first % m + j)) (dec_le m (first % m + k))
    where
      go : Dec (m ≤ first % m + j) → Dec (m ≤ first % m + k) → j ≡ k
      go (yes a) (yes b) = omega (arith, again j h a, again k l b)
      go (yes a) (no b) = omega (arith, again j h a, ahead k (omega arith))
      go (no a) (yes b) = omega (arith, ahead j (omega arith), again k l b)
      go (no a) (no b) = omega (arith, ahead j (omega arith), ahead k (omega arith))

pub round_arranged : (first m : ℕ) → 1 ≤ m → Arrangement m (round_from first m)
round_arranged first m pos =
    arranged_by (λ k. (first + k) % m) m (λ k h. mod-lt (first + k) pos) (turn_of first m pos) (turns_apart first m pos)

-- the front policy keeps what a policy must
pub front_lawful : Lawful front_means
front_lawful =
    record {
      few = λ p. p.count.ok;
      arranged = λ p level. upward_arranged p.count.value;
      kept = λ p level controller. refl;
    }
