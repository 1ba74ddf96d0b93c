-- When a kind and its fields make no frame.
use Rattle.std.proofs.Common.{◌≡◌, ℕ, ◌+◌, ◌*◌, ◌%◌, ◌<◌, Bool, true, false, cond, ◌&&◌, eqb, ltb, List, [], ◌∷◌, length, get_or, drop, Ok, Err, refl, ap, ⊎_elim, arith}
use Rattle.std.proofs.lemmas.Bool.{cases_eq, ne_eqb, and_left, and_right}
use Rattle.digits.specs.Digits.{is_digit, byte_at}
use Rattle.tasks.specs.declared.fault.DigitFault.TheVariants.{Bad, Odd}
use Rattle.tasks.specs.declared.fault.FrameFault.TheVariants.{NoFrame}
use Rattle.frames.specs.Frames.{framed, digits_checked, unless_digits, frame_of}

neither : (a n b m : ℕ) → (a ≡ n → b ≡ m → ⊥) → (eqb a n && eqb b m) ≡ false
neither a n b m h = ⊎_elim (λ e. and_right (eqb a n) (eqb b m) (ne_eqb b m (h e))) (λ e. and_left (eqb a n) (eqb b m) (ne_eqb a n e)) (cases_eq a n)

-- a kind without its length makes no frame
pub no_frame : (line kind : ℕ) (fields : List ℕ) → (kind ≡ 1 → length fields ≡ 4 → ⊥) → (kind ≡ 2 → length fields ≡ 20 → ⊥) → (kind ≡ 3 → length fields ≡ 0 → ⊥) → framed line kind fields ≡ Err (NoFrame line)
no_frame line kind fields a b c = rw (neither kind 1 (length fields) 4 a, neither kind 2 (length fields) 20 b, neither kind 3 (length fields) 0 c)

-- the first decoded byte is that of the digits, also where there is none
pub first_byte : (bytes ds : List ℕ) → 2 * length bytes ≡ length ds → ((k : ℕ) → k < length bytes → get_or bytes k 0 ≡ byte_at ds k) → get_or bytes 0 0 ≡ byte_at ds 0
first_byte [] [] e h = refl
first_byte [] (x ∷ ds) e h = absurd (omega arith)
first_byte (b ∷ bytes) ds e h = h 0 (omega arith)

-- where the digits are good, the kind and the fields decide
pub good_digits : (line : ℕ) (ds : List ℕ) (u : Unit {0}) → Ok u ≡ digits_checked line ds → framed line (byte_at ds 0) (drop 2 ds) ≡ frame_of line ds
good_digits line ds u e = ap (λ r. unless_digits r (framed line (byte_at ds 0) (drop 2 ds))) e

-- fewer than two digits make no frame
pub too_short : (line : ℕ) (ds : List ℕ) (u : Unit {0}) → Ok u ≡ digits_checked line ds → length ds < 2 → Err (NoFrame line) ≡ frame_of line ds
too_short line [] u e l = refl
too_short line (x ∷ []) u e l = absurd (odd (is_digit x) e)
  where
    odd : (b : Bool) → Ok u ≡ cond (ltb (cond b (1 + 0) 0) 1) (Err (Bad line (cond b (1 + 0) 0 + 1))) (cond (eqb (1 % 2) 1) (Err (Odd line (1 + 1))) (Ok tt)) → ⊥
    odd true e = let z : ◌≡◌ {A = ℕ} 0 1 = cc in omega arith
    odd false e = let z : ◌≡◌ {A = ℕ} 0 1 = cc in omega arith
too_short line (x ∷ y ∷ ds) u e l = absurd (omega arith)
