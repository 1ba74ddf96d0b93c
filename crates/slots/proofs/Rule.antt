-- When a slot that starts at some instant of its period meets another.
use Rattle.std.proofs.Common.{◌≡◌, ℕ, ◌+◌, ◌-◌, ◌%◌, ◌<◌, ◌≤◌, Bool, true, false, not, T, ◌⊎◌, ◌↔◌, sym, ap, ◌∙◌, inl, inr, ⊎_elim, add-zero, mod-lt, arith}
use native.Mathlib.Nat.{add-mod_right, le_of_dvd, mod-mod_of_dvd, pos_of_dvd_of_pos}
use native.Mathlib.Decide.{dec_le}
use Rattle.std.specs.Int.{IsGcd}
use Rattle.slots.specs.Jumps.{MeetsFrom}
use Rattle.slots.specs.Slots.{Meet, NeverMeetRule, Occupies, Room, gap}
use Rattle.slots.specs.declared.slot.Slot.{Slot}
use Rattle.slots.proofs.Remainders.{add_same, apart, chinese, gap_is, no_turn}

-- the divisor is above 0 and no longer than the period
module _ (x y : Slot) (g : ℕ) (h : IsGcd x.period y.period g) where
  pub divisor_pos : 0 < g
  divisor_pos = pos_of_dvd_of_pos h.0 (omega arith)

  pub divisor_fits : g ≤ x.period
  divisor_fits = le_of_dvd (omega arith) h.0

module _ (x y : Slot) (g : ℕ) (h : IsGcd x.period y.period g) (s : ℕ) (fits : s + x.budget ≤ x.period) where
  -- with room for both budgets at a distance from s to the other start, up to a multiple of g, no instant is in both
  pub roomy_at : (d : ℕ) → (s + d) % g ≡ y.start % g → x.budget ≤ d → d + y.budget ≤ g → MeetsFrom x y s → ⊥
  roomy_at d e l k (t, (s1, s2), (q1, q2)) =
      let i : ℕ = t % x.period - s in
      let j : ℕ = t % y.period - y.start in
      let ei : s + i ≡ t % x.period = omega arith in
      let ej : y.start + j ≡ t % y.period = omega arith in
      let left : (s + i) % g ≡ t % g = ap (λ n. n % g) ei ∙ mod-mod_of_dvd g t h.0 in
      let right : (y.start + j) % g ≡ t % g = ap (λ n. n % g) ej ∙ mod-mod_of_dvd g t h.1 in
      let both : (s + d + j) % g ≡ (s + i) % g = add_same (s + d) y.start j g e ∙ (right ∙ sym left) in
      let m = apart g (s + d + j) (s + i) both (omega arith) in
      let z : d + j ≡ i = no_turn g i (d + j) m.0 (omega (arith, m.1)) (omega arith) in
      omega arith

  -- an instant of the one and one of the other that agree at g make a meeting
  pub meet_by : (i j : ℕ) → i < x.budget → j < y.budget → (s + i) % g ≡ (y.start + j) % g → MeetsFrom x y s
  meet_by i j l k e =
      let (t, a, b) = chinese x.period y.period g (s + i) (y.start + j) h (omega arith) (omega arith) e in
      (t, (omega arith, omega arith), (omega arith, omega arith))

  pub roomy : x.budget ≤ gap s y.start g → gap s y.start g + y.budget ≤ g → MeetsFrom x y s → ⊥
  roomy = roomy_at (gap s y.start g) (gap_is s y.start g (divisor_pos x y g h))

  -- the other starts within the slot
  pub into_first : gap s y.start g < x.budget → MeetsFrom x y s
  into_first l =
      meet_by (gap s y.start g) 0 l (omega arith)
      (gap_is s y.start g (divisor_pos x y g h) ∙ ap (λ n. n % g) (sym (add-zero y.start)))

  -- the slot starts within the other
  pub into_second : g < gap s y.start g + y.budget → MeetsFrom x y s
  into_second l =
      let d : ℕ = gap s y.start g in
      let dl : d < g = mod-lt (y.start + (g - s % g)) (divisor_pos x y g h) in
      let e : s + d + (g - d) ≡ s + 0 + g = omega arith in
      let back : (s + d) % g ≡ y.start % g = gap_is s y.start g (divisor_pos x y g h) in
      let f : (y.start + (g - d)) % g ≡ (s + 0) % g = add_same y.start (s + d) (g - d) g (sym back) ∙ (ap (λ n. n % g) e ∙ add-mod_right (s + 0) g) in
      meet_by 0 (g - d) (omega arith) (omega arith) (sym f)

module _ (x y : Slot) (g : ℕ) (h : IsGcd x.period y.period g) where
  -- with room they never meet
  apart_by_room : Room x y g → Meet (Occupies x) (Occupies y) → ⊥
  apart_by_room (l, k) = roomy x y g h x.start x.ok.1 l k

  -- without it they do
  room_or_meet : Room x y g ⊎ Meet (Occupies x) (Occupies y)
  room_or_meet = go (dec_le x.budget (gap x.start y.start g)) (dec_le (gap x.start y.start g + y.budget) g)
    where
      go : Dec (x.budget ≤ gap x.start y.start g) → Dec (gap x.start y.start g + y.budget ≤ g) → Room x y g ⊎ Meet (Occupies x) (Occupies y)
      go (no l) k = inr (into_first x y g h x.start x.ok.1 (omega arith))
      go (yes l) (no k) = inr (into_second x y g h x.start x.ok.1 (omega arith))
      go (yes l) (yes k) = inl (l, k)

  -- a test for room tells whether they meet
  pub meets_unless : (r : Bool) → T r ↔ Room x y g → T (not r) ↔ Meet (Occupies x) (Occupies y)
  meets_unless true (there, back) = (λ z. absurd z, λ m. absurd (apart_by_room (there tt) m))
  meets_unless false (there, back) = (λ _. ⊎_elim (λ room. absurd (back room)) (λ m. m) room_or_meet, λ _. tt)

  -- the rule of the remainder, at these two
  never : (Meet (Occupies x) (Occupies y) → ⊥) ↔ Room x y g
  never = (λ n. ⊎_elim (λ room. room) (λ m. absurd (n m)) room_or_meet, apart_by_room)

pub never_meet_rule : NeverMeetRule
never_meet_rule = never
