-- A line is a frame exactly when it is the digits of what it tells.
use Rattle.std.proofs.Common.{◌≡◌, ℕ, zero, suc, ◌+◌, ◌*◌, ◌/◌, ◌%◌, ◌<◌, Bool, true, false, cond, ◌&&◌, eqb, ltb, ◌⊎◌, List, [], ◌∷◌, ◌++◌, length, get_or, drop, Ok, Err, Result, sym, refl, ap, ◌∙◌, subst, inl, inr, ⊎_elim, mul_comm, arith, lit<}
use lib.Arith.{digits_div, digits_mod}
use Rattle.std.specs.List.{flat_map, prefix_len, AllByRecursion}
use Rattle.std.proofs.lemmas.List.{drop_more, drop_all, nil_from_length}
use Rattle.std.proofs.lemmas.Bool.{ltb-false, le-ltb, eqb-true, and_parts}
use Rattle.digits.specs.Digits.{is_digit, two_digits, byte_of, byte_at, word_at}
use Rattle.digits.proofs.Printed.{Digits, read_back, word_back, same_digits, byte_below, digits_printed, leading_digits, digits_from_leading, digit_at}
use Rattle.tasks.specs.declared.fault.DigitFault.{DigitFault}
use Rattle.tasks.specs.declared.fault.DigitFault.TheVariants.{Bad, Odd}
use Rattle.tasks.specs.declared.fault.FrameFault.{FrameFault}
use Rattle.tasks.specs.declared.fault.FrameFault.TheVariants.{NoFrame}
use Rattle.frames.specs.Frames.{Told, opening, row, close, task_of, digits_checked, framed, unless_digits, frame_of}
use Rattle.frames.specs.Texts.{frame_bytes, frame_digits, Fits, ReadsExactly}
use Rattle.frames.proofs.KindLengths.{too_short, good_digits}

-- bytes i, i + 1, .. of some digits, k of them
abbrev bytes_from : (k i : ℕ) → List ℕ → List ℕ
bytes_from zero i ds = []
bytes_from (suc k) i ds = byte_at ds i ∷ bytes_from k (i + 1) ds

-- digits are those of their bytes
parts : (k i : ℕ) (ds : List ℕ) → length ds ≡ 2 * (i + k) → Digits ds → drop (2 * i) ds ≡ flat_map two_digits (bytes_from k i ds)
parts zero i ds e h = drop_all (2 * i) ds (omega arith)
parts (suc k) i ds e h =
    let l0 : 2 * i < length ds = omega arith in
    let l1 : 2 * i + 1 < length ds = omega arith in
    let two : 2 * i + 1 + 1 ≡ 2 * (i + 1) = omega arith in
    drop_more ds (2 * i) 0 l0
    ∙ ap (λ r. get_or ds (2 * i) 0 ∷ r) (drop_more ds (2 * i + 1) 0 l1)
    ∙ ap (λ j. get_or ds (2 * i) 0 ∷ get_or ds (2 * i + 1) 0 ∷ drop j ds) two
    ∙ ap (λ r. get_or ds (2 * i) 0 ∷ get_or ds (2 * i + 1) 0 ∷ r) (parts k (i + 1) ds (omega arith) h)
    ∙ ap (λ p. p ++ flat_map two_digits (bytes_from k (i + 1) ds)) (sym (same_digits (get_or ds (2 * i) 0) (get_or ds (2 * i + 1) 0) (digit_at ds (2 * i) h l0) (digit_at ds (2 * i + 1) h l1)))

byte_small : (ds : List ℕ) (k : ℕ) → byte_at ds k < 256
byte_small ds k = byte_below (get_or ds (2 * k) 0) (get_or ds (2 * k + 1) 0)

word_high : (ds : List ℕ) (k : ℕ) → word_at ds k / 256 ≡ byte_at ds k
word_high ds k = rw (mul_comm 256 (byte_at ds k)) (digits_div (byte_at ds k) (byte_small ds (k + 1)))

word_low : (ds : List ℕ) (k : ℕ) → word_at ds k % 256 ≡ byte_at ds (k + 1)
word_low ds k = rw (mul_comm 256 (byte_at ds k)) (digits_mod (byte_at ds k) (byte_small ds (k + 1)))

-- the bytes of the task that some fields tell are those of the fields
task_bytes : (fields : List ℕ) → frame_bytes (row (task_of fields)) ≡ 2 ∷ bytes_from 10 0 fields
task_bytes fields = λ i.
    2 ∷ byte_at fields 0 ∷ byte_at fields 1
    ∷ word_high fields 2 i ∷ word_low fields 2 i
    ∷ word_high fields 4 i ∷ word_low fields 4 i
    ∷ word_high fields 6 i ∷ word_low fields 6 i
    ∷ word_high fields 8 i ∷ word_low fields 8 i ∷ []

-- good digits pass the check
digits_pass : (line : ℕ) (ds : List ℕ) → Digits ds → length ds % 2 ≡ 0 → digits_checked line ds ≡ Ok tt
digits_pass line ds h e = rw (leading_digits ds h, le-ltb (length ds) (length ds) (omega arith), e)

passed : (line : ℕ) (ds : List ℕ) (u : Unit {0}) (b : Bool) → ltb (prefix_len is_digit ds) (length ds) ≡ b → Ok u ≡ cond b (Err (Bad line (prefix_len is_digit ds + 1))) (cond (eqb (length ds % 2) 1) (Err (Odd line (length ds + 1))) (Ok tt)) → Digits ds
passed line ds u true t e = absurd (let z : ◌≡◌ {A = ℕ} 0 1 = cc in omega arith)
passed line ds u false t e = digits_from_leading ds (ltb-false (prefix_len is_digit ds) (length ds) t)

-- the digits of a frame read as that frame
pub told_read : (line : ℕ) (told : Told) → Fits told → frame_of line (frame_digits told) ≡ Ok told
told_read line (opening m tasks) h =
    sym (good_digits line (frame_digits (opening m tasks)) tt (sym (digits_pass line (frame_digits (opening m tasks)) (digits_printed (frame_bytes (opening m tasks)) h) refl)))
    ∙ (λ i. Ok (opening (read_back m h.1.0 i) (read_back tasks h.1.1.0 i)))
told_read line (row t) h =
    sym (good_digits line (frame_digits (row t)) tt (sym (digits_pass line (frame_digits (row t)) (digits_printed (frame_bytes (row t)) h) refl)))
    ∙ (λ i. Ok (row (record {
      id = read_back t.id h.1.0 i;
      level = read_back t.level h.1.1.0 i;
      period = word_back t.period h.1.1.1.0 i;
      deadline = word_back t.deadline h.1.1.1.1.1.0 i;
      budgets = record {
        everyday = word_back t.budgets.everyday h.1.1.1.1.1.1.1.0 i;
        critical = word_back t.budgets.critical h.1.1.1.1.1.1.1.1.1.0 i;
      };
    })))
told_read line close h = refl

-- what a kind and its fields tell, where they make a frame
abbrev Made : ℕ → List ℕ → Told → Type 0
Made kind fields told =
    ((kind ≡ 1) × (length fields ≡ 4) × (told ≡ opening (byte_at fields 0) (byte_at fields 1)))
    ⊎ (((kind ≡ 2) × (length fields ≡ 20) × (told ≡ row (task_of fields)))
    ⊎ ((kind ≡ 3) × (length fields ≡ 0) × (told ≡ close)))

made : (line kind : ℕ) (fields : List ℕ) (told : Told) (a b c : Bool) → (eqb kind 1 && eqb (length fields) 4) ≡ a → (eqb kind 2 && eqb (length fields) 20) ≡ b → (eqb kind 3 && eqb (length fields) 0) ≡ c →
    cond a (Ok (opening (byte_at fields 0) (byte_at fields 1))) (cond b (Ok (row (task_of fields))) (cond c (Ok close) (Err (NoFrame line)))) ≡ Ok told → Made kind fields told
made line kind fields told true b c ea eb ec e =
    let p = and_parts (eqb kind 1) (eqb (length fields) 4) ea in
    let s : told ≡ opening (byte_at fields 0) (byte_at fields 1) = cc in
    inl (eqb-true kind 1 p.0, eqb-true (length fields) 4 p.1, s)
made line kind fields told false true c ea eb ec e =
    let p = and_parts (eqb kind 2) (eqb (length fields) 20) eb in
    let s : told ≡ row (task_of fields) = cc in
    inr (inl (eqb-true kind 2 p.0, eqb-true (length fields) 20 p.1, s))
made line kind fields told false false true ea eb ec e =
    let p = and_parts (eqb kind 3) (eqb (length fields) 0) ec in
    let s : told ≡ close = cc in
    inr (inr (eqb-true kind 3 p.0, eqb-true (length fields) 0 p.1, s))
made line kind fields told false false false ea eb ec e = absurd (let z : ◌≡◌ {A = ℕ} 0 1 = cc in omega arith)

-- the digits of a line that tells something are those of what it tells
abbrev Texts : List ℕ → Told → Type 0
Texts ds told = (ds ≡ frame_digits told) × Fits told

module _ (a b : ℕ) (fields : List ℕ) (da : is_digit a ≡ true) (db : is_digit b ≡ true) (df : Digits fields) where
  first_two : (kind : ℕ) → byte_of a b ≡ kind → a ∷ b ∷ fields ≡ two_digits kind ++ fields
  first_two kind e = ap (λ p. p ++ fields) (sym (same_digits a b da db) ∙ ap two_digits e)

  texts : (told : Told) → Made (byte_of a b) fields told → Texts (a ∷ b ∷ fields) told
  texts told = elim [
    | inl m ↦ subst (Texts (a ∷ b ∷ fields)) (sym m.2) (
      first_two 1 m.0 ∙ ap (λ fs. two_digits 1 ++ fs) (parts 2 0 fields m.1 df),
      (lit< tt, (byte_small fields 0, (byte_small fields 1, tt))),
    )
    | inr n ↦ ⊎_elim
        (λ m. subst (Texts (a ∷ b ∷ fields)) (sym m.2) (
          first_two 2 m.0 ∙ ap (λ fs. two_digits 2 ++ fs) (parts 10 0 fields m.1 df) ∙ ap (flat_map two_digits) (sym (task_bytes fields)),
          subst (AllByRecursion (λ x. x < 256)) (sym (task_bytes fields)) (lit< tt, all_small 10 0),
        ))
        (λ m. subst (Texts (a ∷ b ∷ fields)) (sym m.2) (
          first_two 3 m.0 ∙ ap (λ fs. two_digits 3 ++ fs) (nil_from_length fields m.1),
          (lit< tt, tt),
        ))
        n
  ]
    where
      all_small : (k i : ℕ) → AllByRecursion (λ x. x < 256) (bytes_from k i fields)
      all_small = elim [ zero ↦ (λ i. tt) | suc (k → ih) ↦ (λ i. (byte_small fields i, ih (i + 1))) ]

-- where the digits pass, the line is the text of what it tells
good_text : (line : ℕ) (ds : List ℕ) (told : Told) (u : Unit {0}) → Ok u ≡ digits_checked line ds → frame_of line ds ≡ Ok told → Texts ds told
good_text line [] told u g e = absurd (let s = too_short line [] u g (omega arith) ∙ e in let z : ◌≡◌ {A = ℕ} 0 1 = cc in omega arith)
good_text line (a ∷ []) told u g e = absurd (let s = too_short line (a ∷ []) u g (omega arith) ∙ e in let z : ◌≡◌ {A = ℕ} 0 1 = cc in omega arith)
good_text line (a ∷ b ∷ fields) told u g e =
    let d = passed line (a ∷ b ∷ fields) u (ltb (prefix_len is_digit (a ∷ b ∷ fields)) (length (a ∷ b ∷ fields))) refl g in
    let kind = byte_of a b in
    texts a b fields d.0 d.1.0 d.1.1 told
    (made line kind fields told (eqb kind 1 && eqb (length fields) 4) (eqb kind 2 && eqb (length fields) 20) (eqb kind 3 && eqb (length fields) 0) refl refl refl (good_digits line (a ∷ b ∷ fields) u g ∙ e))

by_check : (line : ℕ) (ds : List ℕ) (told : Told) (r : Result (Unit {0}) DigitFault) → r ≡ digits_checked line ds → unless_digits r (framed line (byte_at ds 0) (drop 2 ds)) ≡ Ok told → Texts ds told
by_check line ds told (Ok u) g e = good_text line ds told u g (sym (good_digits line ds u g) ∙ e)
by_check line ds told (Err f) g e = absurd (let z : ◌≡◌ {A = ℕ} 0 1 = cc in omega arith)

-- a line that tells something is the text of it
pub told_text : (line : ℕ) (ds : List ℕ) (told : Told) → frame_of line ds ≡ Ok told → (ds ≡ frame_digits told) × Fits told
told_text line ds told e = by_check line ds told (digits_checked line ds) refl e

-- so a line is a frame exactly when it is the text of one
pub reads_exactly : (line : ℕ) (ds : List ℕ) (r : Result Told FrameFault) → r ≡ frame_of line ds → ReadsExactly ds r
reads_exactly line ds r e told = (
  (λ h. told_text line ds told (sym e ∙ h)),
  (λ h. e ∙ ap (frame_of line) h.0 ∙ told_read line told h.1),
)
