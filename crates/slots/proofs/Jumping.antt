-- What a jump to the next clear start gives.
use Rattle.std.proofs.Common.{◌≡◌, ℕ, ◌+◌, ◌-◌, ◌%◌, ◌<◌, ◌≤◌, ltb, Some, None, sym, ap, ◌∙◌, add-zero, mod-lt, arith}
use native.Mathlib.Nat.{add-mod_right}
use native.Mathlib.Decide.{dec_le, dec_lt}
use Rattle.std.proofs.lemmas.Bool.{cond_both, ltb-true, ltb-false}
use Rattle.std.specs.Int.{IsGcd}
use Rattle.slots.specs.Jumps.{MeetsFrom, ClearAfter, Next, past_end, hop_over}
use Rattle.slots.specs.Slots.{gap}
use Rattle.slots.specs.declared.slot.Slot.{Slot}
use Rattle.slots.proofs.Remainders.{add_same, gap_is}
use Rattle.slots.proofs.Rule.{divisor_fits, divisor_pos, into_first, into_second, meet_by, roomy, roomy_at}

module _ (x y : Slot) (g : ℕ) (h : IsGcd x.period y.period g) where
  -- the start of x and that of y with the same added agree at g
  shifted : (e : ℕ) → (x.start + gap x.start y.start g + e) % g ≡ (y.start + e) % g
  shifted e = add_same (x.start + gap x.start y.start g) y.start e g (gap_is x.start y.start g (divisor_pos x y g h))

  -- there is too little room anywhere
  crowded : g < x.budget + y.budget → Next x y None
  crowded l j f = go (dec_le x.budget (gap j y.start g))
    where
      go : Dec (x.budget ≤ gap j y.start g) → MeetsFrom x y j
      go (yes k) = into_second x y g h j f (omega arith)
      go (no k) = into_first x y g h j f (omega arith)

  -- from where y starts within x on to the end of y
  pass_first
      : gap x.start y.start g < x.budget
      → (j : ℕ) → x.start ≤ j → j < x.start + (gap x.start y.start g + y.budget) → j + x.budget ≤ x.period → MeetsFrom x y j
  pass_first l j a b f = go (dec_le j (x.start + gap x.start y.start g))
    where
      go : Dec (j ≤ x.start + gap x.start y.start g) → MeetsFrom x y j
      go (yes m) =
          let d : ℕ = gap x.start y.start g in
          let e : j + (x.start + d - j) ≡ x.start + d + 0 = omega arith in
          meet_by x y g h j f (x.start + d - j) 0 (omega arith) (omega arith) (ap (λ n. n % g) e ∙ shifted 0)
      go (no m) =
          let d : ℕ = gap x.start y.start g in
          let i : ℕ = j - (x.start + d) in
          let e : j + 0 ≡ x.start + d + i = omega arith in
          meet_by x y g h j f 0 i (omega arith) (omega arith) (ap (λ n. n % g) e ∙ shifted i)

  -- from where x starts within y on to the end of y
  pass_second
      : (j : ℕ) → x.start ≤ j → j < x.start + (gap x.start y.start g + y.budget - g) → j + x.budget ≤ x.period → MeetsFrom x y j
  pass_second j a b f =
      let d : ℕ = gap x.start y.start g in
      let dl : d < g = mod-lt (y.start + (g - x.start % g)) (divisor_pos x y g h) in
      let i : ℕ = g - d + (j - x.start) in
      let e : x.start + d + i ≡ j + 0 + g = omega arith in
      meet_by x y g h j f 0 i (omega arith) (omega arith) (sym (add-mod_right (j + 0) g) ∙ (ap (λ n. n % g) (sym e) ∙ shifted i))

  -- at the end of y there is room up to its next start
  past
      : x.budget + y.budget ≤ g
      → (s : ℕ) → (s + (g - y.budget)) % g ≡ (y.start + 0) % g → s + x.budget ≤ x.period → MeetsFrom x y s → ⊥
  past l s e f = roomy_at x y g h s f (g - y.budget) (e ∙ ap (λ n. n % g) (add-zero y.start)) (omega arith) (omega arith)

  -- y starts within x
  hop_first
      : x.budget + y.budget ≤ g
      → gap x.start y.start g < x.budget → ClearAfter x y (gap x.start y.start g + y.budget)
  hop_first r l =
      let d : ℕ = gap x.start y.start g in
      let e : x.start + (d + y.budget) + (g - y.budget) ≡ x.start + d + 0 + g = omega arith in
      record {
        near = omega (arith, divisor_fits x y g h);
        passed = pass_first l;
        clear = past r (x.start + (d + y.budget)) (ap (λ n. n % g) e ∙ (add-mod_right (x.start + d + 0) g ∙ shifted 0));
      }

  -- y does not start within x
  hop_second
      : x.budget + y.budget ≤ g
      → x.budget ≤ gap x.start y.start g → ClearAfter x y (gap x.start y.start g + y.budget - g)
  hop_second r l =
      record {
        near = omega (arith, divisor_fits x y g h, mod-lt (y.start + (g - x.start % g)) (divisor_pos x y g h));
        passed = pass_second;
        clear = go (dec_le (gap x.start y.start g + y.budget) g);
      }
    where
      go
          : Dec (gap x.start y.start g + y.budget ≤ g)
          → x.start + (gap x.start y.start g + y.budget - g) + x.budget ≤ x.period
          → MeetsFrom x y (x.start + (gap x.start y.start g + y.budget - g)) → ⊥
      go (yes k) f =
          let e : x.start + (gap x.start y.start g + y.budget - g) ≡ x.start = omega arith in
          rw e (roomy x y g h x.start x.ok.1 l k)
      go (no k) f =
          let d : ℕ = gap x.start y.start g in
          let e : x.start + (d + y.budget - g) + (g - y.budget) ≡ x.start + d + 0 = omega arith in
          past r (x.start + (d + y.budget - g)) (ap (λ n. n % g) e ∙ shifted 0) f

  -- the way past the other slot's end leads to the next clear start
  pub next_hop : Next x y (hop_over x y g)
  next_hop =
      cond_both (ltb g (x.budget + y.budget)) None (Some (past_end x y g)) (Next x y)
      (λ t. crowded (ltb-true g (x.budget + y.budget) t))
      (λ f. past_end_clear (ltb-false g (x.budget + y.budget) f))
    where
      past_end_clear : x.budget + y.budget ≤ g → ClearAfter x y (past_end x y g)
      past_end_clear r =
          let d : ℕ = gap x.start y.start g in
          cond_both (ltb d x.budget) (d + y.budget) (d + y.budget - g) (ClearAfter x y)
          (λ t. hop_first r (ltb-true d x.budget t))
          (λ f. hop_second r (ltb-false d x.budget f))

-- A jump of 0 says that the slot is clear where it is: for a search that stops there.
pub clear_here : {x y : Slot} {n : ℕ} → ClearAfter x y n → n ≡ 0 → MeetsFrom x y x.start → ⊥
clear_here {x} {y} {n} h z = let e : x.start + n ≡ x.start = omega arith in rw e at (h.clear (omega arith))

-- What holds of each start before this one, and of each that a jump passes over, holds of each before the start that the
-- jump leads to: for the step of a search that goes on.
pub below_jump
    : (P : ℕ → Type 0) (s n : ℕ)
    → ((j : ℕ) → j < s → P j)
    → ((j : ℕ) → s ≤ j → j < s + n → P j)
    → (j : ℕ) → j < s + n → P j
below_jump P s n below passed j l = go (dec_lt j s)
  where
    go : Dec (j < s) → P j
    go (yes k) = below j k
    go (no k) = passed j (omega arith) l
