-- Digits printed and read back, one byte and lists of them.
use Rattle.std.proofs.Common.{◌≡◌, ℕ, zero, suc, ◌+◌, ◌*◌, ◌/◌, ◌%◌, ◌<◌, ◌≤◌, Bool, true, false, cond, List, [], ◌∷◌, length, get_or, refl, mod-lt, mul_comm, div-lt_iff_lt-mul, one-add, arith, rules}
use native.Mathlib.Nat.{div-add-mod}
use lib.Arith.{digits_div, digits_mod}
use Rattle.std.specs.List.{flat_map, prefix_len, AllByRecursion}
use Rattle.digits.specs.Digits.{value, is_digit, printed, two_digits, byte_of}

-- a byte's two digits read back as the byte
pub read_back : (b : ℕ) → b < 256 → byte_of (printed (b / 16)) (printed (b % 16)) ≡ b
read_back b l = search rules

-- a number's two bytes, each as two digits, read back as the number
pub word_back : (w : ℕ) → w / 256 < 256 → 256 * byte_of (printed (w / 256 / 16)) (printed (w / 256 % 16)) + byte_of (printed (w % 256 / 16)) (printed (w % 256 % 16)) ≡ w
word_back w l = rw (read_back (w / 256) l, read_back (w % 256) (mod-lt w (omega arith))) (div-add-mod w 256)

value_below : (c : ℕ) → value c < 16
value_below c = search rules

printed_value : (c : ℕ) → is_digit c ≡ true → printed (value c) ≡ c
printed_value c e = search rules

digit_printed : (v : ℕ) → v < 16 → is_digit (printed v) ≡ true
digit_printed v l = search rules

-- every byte of a list is a digit
abbrev pub Digits : List ℕ → Type 0
Digits ds = AllByRecursion (λ d. is_digit d ≡ true) ds

-- two digits are those printed for their byte
pub same_digits : (a b : ℕ) → is_digit a ≡ true → is_digit b ≡ true → two_digits (byte_of a b) ≡ a ∷ b ∷ []
same_digits a b ea eb =
    let lb = value_below b in
    let q : byte_of a b / 16 ≡ value a = rw mul_comm (digits_div (value a) lb) in
    let r : byte_of a b % 16 ≡ value b = rw mul_comm (digits_mod (value a) lb) in
    rw (q, r, printed_value a ea, printed_value b eb)

-- two digits stand for a byte
pub byte_below : (a b : ℕ) → byte_of a b < 256
byte_below a b = omega (arith, value_below a, value_below b)

-- what is printed for bytes are digits
pub digits_printed : (bs : List ℕ) → AllByRecursion (λ b. b < 256) bs → Digits (flat_map two_digits bs)
digits_printed [] h = tt
digits_printed (b ∷ bs) h = (digit_printed (b / 16) ((div-lt_iff_lt-mul (omega arith)).1 (omega (arith, h.0))), (digit_printed (b % 16) (mod-lt b (omega arith)), digits_printed bs h.1))

-- no digit stops the count of leading digits
pub leading_digits : (ds : List ℕ) → Digits ds → prefix_len is_digit ds ≡ length ds
leading_digits [] h = refl
leading_digits (d ∷ ds) h = rw (h.0, leading_digits ds h.1) (one-add (length ds))

leading_more : (d : ℕ) (ds : List ℕ) (b : Bool) → is_digit d ≡ b → suc (length ds) ≤ cond b (1 + prefix_len is_digit ds) 0 → (length ds ≤ prefix_len is_digit ds → Digits ds) → (is_digit d ≡ true) × Digits ds
leading_more d ds true e l ih = (e, ih (omega arith))
leading_more d ds false e l ih = absurd (omega arith)

-- and only digits do not stop it
pub digits_from_leading : (ds : List ℕ) → length ds ≤ prefix_len is_digit ds → Digits ds
digits_from_leading [] l = tt
digits_from_leading (d ∷ ds) l = leading_more d ds (is_digit d) refl l (digits_from_leading ds)

-- each of a list of digits is one
pub digit_at : (ds : List ℕ) (k : ℕ) → Digits ds → k < length ds → is_digit (get_or ds k 0) ≡ true
digit_at [] k h l = absurd (omega arith)
digit_at (d ∷ ds) zero h l = h.0
digit_at (d ∷ ds) (suc k) h l = digit_at ds k h.1 (omega arith)
