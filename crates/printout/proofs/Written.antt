-- A line written byte after byte.
use Rattle.std.proofs.Common.{◌≡◌, ℕ, ◌+◌, ◌*◌, ◌<◌, ◌≤◌, List, [], ◌∷◌, ◌++◌, length, get_or, take, drop, set, sym, refl, ap, ◌∙◌, arith, length-append}
use Rattle.std.specs.List.{flat_map}
use Rattle.std.proofs.lemmas.List.{append_assoc, drop_more, take_more, flat_map_more, set_at, length-take-le, take_all}
use Rattle.digits.specs.Digits.{two_digits}
use Rattle.printout.specs.Texts.{line_of}

length_digits : (bs : List ℕ) → length (flat_map two_digits bs) ≡ 2 * length bs
length_digits [] = refl
length_digits (b ∷ bs) = omega (arith, length_digits bs)

-- the digits of the first i bytes
abbrev pub front : List ℕ → ℕ → List ℕ
front bytes i = flat_map two_digits (take i bytes)

module _ (out bytes : List ℕ) (room : 2 * length bytes + 1 ≤ length out) where
  front_long : (i : ℕ) → i ≤ length bytes → length (front bytes i) ≡ 2 * i
  front_long i l = omega (arith, length_digits (take i bytes), length-take-le i bytes l)

  -- one byte more
  pub put_two : (i h k : ℕ) → i < length bytes → h ∷ k ∷ [] ≡ two_digits (get_or bytes i 0) →
      set (set (front bytes i ++ drop (2 * i) out) (2 * i) h) (2 * i + 1) k ≡ front bytes (i + 1) ++ drop (2 * (i + 1)) out
  put_two i h k l e =
      let f : List ℕ = front bytes i in
      let n : ℕ = 2 * i in
      let a : ℕ = get_or out n 0 in
      let b : ℕ = get_or out (n + 1) 0 in
      let rest : List ℕ = drop (n + 1 + 1) out in
      let long = front_long i (omega arith) in
      let two : drop n out ≡ a ∷ b ∷ rest = drop_more out n 0 (omega arith) ∙ ap (λ r. a ∷ r) (drop_more out (n + 1) 0 (omega arith)) in
      let first : set (f ++ drop n out) n h ≡ f ++ h ∷ b ∷ rest = ap (λ r. set (f ++ r) n h) two ∙ set_at f a (b ∷ rest) h n long in
      let longer : length (f ++ h ∷ []) ≡ n + 1 = length-append f (h ∷ []) ∙ omega arith in
      let second : set (f ++ h ∷ b ∷ rest) (n + 1) k ≡ (f ++ h ∷ []) ++ k ∷ rest = ap (λ r. set r (n + 1) k) (sym (append_assoc f (h ∷ []) (b ∷ rest))) ∙ set_at (f ++ h ∷ []) b rest k (n + 1) longer in
      let more : f ++ (h ∷ k ∷ []) ≡ front bytes (i + 1) = ap (λ d. f ++ d) e ∙ flat_map_more two_digits [] (take i bytes) (get_or bytes i 0) ∙ ap (flat_map two_digits) (sym (take_more bytes i 0 l)) in
      let next : n + 1 + 1 ≡ 2 * (i + 1) = omega arith in
      ap (λ r. set r (n + 1) k) first ∙ second
      ∙ append_assoc f (h ∷ []) (k ∷ rest) ∙ sym (append_assoc f (h ∷ k ∷ []) rest)
      ∙ (λ j. more j ++ drop (next j) out)

  -- the end of the line
  pub put_end : (i : ℕ) → length bytes ≤ i → i ≤ length bytes →
      set (front bytes i ++ drop (2 * i) out) (2 * length bytes) 10 ≡ line_of bytes ++ drop (2 * length bytes + 1) out
  put_end i l m =
      let same : i ≡ length bytes = omega arith in
      let n : ℕ = 2 * length bytes in
      let digits : List ℕ = flat_map two_digits bytes in
      let whole : front bytes i ≡ digits = ap (flat_map two_digits) (take_all i bytes l) in
      (λ j. set (whole j ++ drop (2 * same j) out) n 10)
      ∙ ap (λ r. set (digits ++ r) n 10) (drop_more out n 0 (omega arith))
      ∙ set_at digits (get_or out n 0) (drop (n + 1) out) 10 n (length_digits bytes)
      ∙ sym (append_assoc digits (10 ∷ []) (drop (n + 1) out))
