-- Numbers with equal remainders.
use Rattle.std.proofs.Common.{◌≡◌, ℕ, zero, suc, ◌+◌, ◌-◌, ◌*◌, ◌/◌, ◌%◌, ◌<◌, ◌≤◌, sym, ap, ◌∙◌, mod-lt, mod-eq_of_lt, mul_assoc, suc-mul, add-mul, div-add-mod', mul-add, le-mul_of_pos_right, arith}
use Prim.Native.Nat.{◌∣◌}
use native.Mathlib.Nat.{add-mod-mod, add-mul-mod_self_left, add-mul-mod_self_right, dvd-mul_left_of_dvd, le_dest, mod-add-mod, mul-div_cancel'}
use native.Mathlib.Decide.{dec_le}
use Rattle.std.specs.Int.{IsGcd}
use Rattle.slots.specs.Slots.{gap}
use Rattle.slots.proofs.Bezout.{bezout_gcd}

-- numbers with equal remainders differ by a multiple
pub apart : (g u v : ℕ) → u % g ≡ v % g → v ≤ u → (k : ℕ) × (u ≡ v + k * g)
apart g u v e h = go (dec_le (v / g) (u / g))
  where
    go : Dec (v / g ≤ u / g) → (k : ℕ) × (u ≡ v + k * g)
    go (yes l) =
        let d = le_dest l in
        let f : u / g * g ≡ (v / g + d.0) * g = ap (λ x. x * g) (sym d.1) in
        (d.0, omega (arith, f, add-mul (v / g) d.0 g, div-add-mod' u g, div-add-mod' v g))
    go (no n) =
        let l : u / g ≤ v / g = omega arith in
        let d = le_dest l in
        let f : v / g * g ≡ (u / g + d.0) * g = ap (λ x. x * g) (sym d.1) in
        (0, omega (arith, f, add-mul (u / g) d.0 g, div-add-mod' u g, div-add-mod' v g))

-- and are the same where they differ by less than g
pub no_turn : (g i r k : ℕ) → r ≡ i + k * g → r < g → r ≡ i
no_turn g i r zero e l = omega (arith, e)
no_turn g i r (suc k) e l = omega (arith, e, suc-mul k g)

-- equal remainders stay equal where the same is added
pub add_same : (u v j g : ℕ) → u % g ≡ v % g → (u + j) % g ≡ (v + j) % g
add_same u v j g e = sym (mod-add-mod u g j) ∙ (ap (λ x. (x + j) % g) e ∙ mod-add-mod v g j)

-- a start and the gap behind it make the other start, up to a multiple of g
pub gap_is : (s q g : ℕ) → 0 < g → (s + gap s q g) % g ≡ q % g
gap_is s q g h =
    let l : s % g < g = mod-lt s h in
    let e : s + (q + (g - s % g)) ≡ q + (s / g + 1) * g = omega (arith, div-add-mod' s g, add-mul (s / g) 1 g) in
    add-mod-mod s (q + (g - s % g)) g ∙ (ap (λ x. x % g) e ∙ add-mul-mod_self_right q (s / g + 1) g)

-- a multiple of g changes no remainder by g
same_mod : (g y c : ℕ) → g ∣ c → (y + c) % g ≡ y % g
same_mod g y c h = ap (λ x. (y + x) % g) (sym (mul-div_cancel' g {m = c} h)) ∙ add-mul-mod_self_left y g (c / g)

-- the Chinese remainder: two remainders that agree at the greatest common divisor have a common instant
pub chinese : (a b g x y : ℕ) → IsGcd a b g → x < a → y < b → x % g ≡ y % g → (t : ℕ) × (t % a ≡ x) × (t % b ≡ y)
chinese a b g x y h xa yb e =
    let pa : 0 < a = omega arith in
    let pb : 0 < b = omega arith in
    go (bezout_gcd a b g pa pb h)
    (apart g (y + x * b) x (same_mod g y (x * b) (dvd-mul_left_of_dvd g {b = b} h.1 x) ∙ sym e) (omega (arith, le-mul_of_pos_right x pb)))
  where
    go
        : (m : ℕ) × (n : ℕ) × (m * a ≡ g + n * b)
        → (q : ℕ) × (y + x * b ≡ x + q * g)
        → (t : ℕ) × (t % a ≡ x) × (t % b ≡ y)
    go (m, n, z) (q, w) =
        let f : q * (m * a) ≡ q * (g + n * b) = ap (λ k. q * k) z in
        let s : x + q * m * a ≡ y + (x + q * n) * b = omega (arith, mul_assoc q m a, mul-add q g (n * b), mul_assoc q n b, add-mul x (q * n) b) in (
          x + q * m * a,
          add-mul-mod_self_right x (q * m) a ∙ mod-eq_of_lt xa,
          ap (λ k. k % b) s ∙ (add-mul-mod_self_right y (x + q * n) b ∙ mod-eq_of_lt yb),
        )
