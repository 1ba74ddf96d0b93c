-- The greatest common divisor as a combination of the two numbers.
use Rattle.std.proofs.Common.{◌≡◌, ℕ, zero, suc, ◌+◌, ◌*◌, ◌/◌, ◌%◌, ◌<◌, ◌≤◌, ◌⊎◌, sym, refl, ap, ◌∙◌, inl, inr, mod-lt, mul_assoc, suc-mul, mul_comm, add-mul, eq-zero-or-pos, div-add-mod', zero-mul, mul-add, arith}
use Prim.Native.Nat.{◌∣◌}
use native.Mathlib.Nat.{dvd-mod_iff, dvd_of_mod-eq-zero, dvd_refl, mul-div_cancel'}
use Rattle.std.specs.Int.{IsGcd}

-- a common divisor that is a combination of the two, either way round
record Bezout (a b : ℕ) : Type 0 where
  pub g : ℕ
  pub left : g ∣ a
  pub right : g ∣ b
  pub m : ℕ
  pub n : ℕ
  pub over : m * a ≡ g + n * b
  pub p : ℕ
  pub q : ℕ
  pub under : p * b ≡ g + q * a

-- where the second divides the first it is that divisor
whole : (a b k : ℕ) → 0 < a → a % b ≡ 0 → a / b ≡ k → Bezout a b
whole a b zero h e z =
    let d : a / b * b ≡ 0 = ap (λ x. x * b) z ∙ zero-mul b in
    let f : ⊥ = omega (arith, div-add-mod' a b) in
    absurd f
whole a b (suc k) h e z =
    record {
      g = b;
      left = dvd_of_mod-eq-zero b {n = a} e;
      right = dvd_refl b;
      m = 1;
      n = k;
      over = (let d : a / b * b ≡ k * b + b = ap (λ x. x * b) z ∙ suc-mul k b in omega (arith, div-add-mod' a b));
      p = 1;
      q = 0;
      under = omega arith;
    }

-- otherwise it is that of the second and the remainder
again : (a b : ℕ) → Bezout b (a % b) → Bezout a b
again a b h =
    record {
      g = h.g;
      left = (dvd-mod_iff h.g {m = a} {n = b} h.left).0 h.right;
      right = h.left;
      m = h.p;
      n = h.q + h.p * (a / b);
      over = turn h.p h.q h.under;
      p = h.m + h.n * (a / b);
      q = h.n;
      under = back h.m h.n h.over;
    }
  where
    product : (x : ℕ) → x * a ≡ x * (a / b) * b + x * (a % b)
    product x =
        ap (λ y. x * y) (sym (div-add-mod' a b)) ∙ (mul-add x (a / b * b) (a % b) ∙ ap (λ y. y + x * (a % b)) (sym (mul_assoc x (a / b) b)))

    turn : (p q : ℕ) → p * (a % b) ≡ h.g + q * b → p * a ≡ h.g + (q + p * (a / b)) * b
    turn p q e = omega (arith, product p, add-mul q (p * (a / b)) b)

    back : (m n : ℕ) → m * b ≡ h.g + n * (a % b) → (m + n * (a / b)) * b ≡ h.g + n * a
    back m n e = omega (arith, product n, add-mul m (n * (a / b)) b)

-- there is one, by recursion on a bound of the second
bezout : (f a b : ℕ) → b ≤ f → 0 < a → 0 < b → Bezout a b
bezout zero a b h pa pb = let f : ⊥ = omega arith in absurd f
bezout (suc f) a b h pa pb = go (eq-zero-or-pos (a % b)) (λ r. bezout f b (a % b) (let l = mod-lt a {m = b} pb in omega arith) pb r)
  where
    go : (a % b ≡ 0) ⊎ (0 < a % b) → (0 < a % b → Bezout b (a % b)) → Bezout a b
    go (inl e) ih = whole a b (a / b) pa e refl
    go (inr r) ih = again a b (ih r)

-- Bezout's equation at the greatest common divisor
pub bezout_gcd : (a b g : ℕ) → 0 < a → 0 < b → IsGcd a b g → (m : ℕ) × (n : ℕ) × (m * a ≡ g + n * b)
bezout_gcd a b g pa pb h =
    let z : Bezout a b = bezout b a b (omega arith) pa pb in
    let d : z.g ∣ g = h.2 z.g z.left z.right in
    let k : ℕ = g / z.g in
    let e : z.g * k ≡ g = mul-div_cancel' z.g {m = g} d in
    let f : k * (z.m * a) ≡ k * (z.g + z.n * b) = ap (λ x. k * x) z.over in
    (k * z.m, k * z.n, omega (arith, e, f, mul_comm z.g k, mul-add k z.g (z.n * b), mul_assoc k z.m a, mul_assoc k z.n b))
