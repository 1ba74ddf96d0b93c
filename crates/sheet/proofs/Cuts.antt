-- The first line of some bytes, by the count of the bytes before its end.
use Rattle.std.proofs.Common.{◌≡◌, ℕ, suc, ◌+◌, ◌-◌, ◌<◌, ◌≤◌, Bool, true, false, cond, List, [], ◌∷◌, length, take, drop, sym, refl, ap, ◌∙◌, add-one, one-add, arith, Some, None, eqb}
use native.Mathlib.Nat.{sub-zero}
use Rattle.std.specs.List.{prefix_len, position}
use Rattle.std.proofs.lemmas.Bool.Decides.{nat_tests}
use Rattle.std.proofs.lemmas.List.{take_rest, drop-drop, length-take-le}
use Rattle.std.proofs.lemmas.List.Sums.{prefix_len-le-length}
use Rattle.sheet.specs.Walk.{place_after}
use Rattle.sheet.specs.Lines.{not_ended, ended, in_line, longer, lines}

abbrev Cut : List ℕ → Type 0
Cut bs = prefix_len in_line bs < length bs → lines bs ≡ ended (take (prefix_len in_line bs) bs) (lines (drop (prefix_len in_line bs + 1) bs))

cut_more : (b : ℕ) (bs : List ℕ) (t : Bool) → Cut bs → cond t (1 + prefix_len in_line bs) 0 < suc (length bs) →
    cond t (longer b (lines bs)) (ended [] (lines bs)) ≡ ended (take (cond t (1 + prefix_len in_line bs) 0) (b ∷ bs)) (lines (drop (cond t (1 + prefix_len in_line bs) 0 + 1) (b ∷ bs)))
cut_more b bs true ih l = ap (longer b) (ih (omega arith)) ∙ simp (one-add, add-one)
cut_more b bs false ih l = refl

-- an end after some bytes cuts the first line there
pub cut : (bs : List ℕ) → Cut bs
cut [] l = absurd (omega arith)
cut (b ∷ bs) l = cut_more b bs (in_line b) (cut bs) l

abbrev Uncut : List ℕ → Type 0
Uncut bs = prefix_len in_line bs ≡ length bs → 0 < length bs → lines bs ≡ not_ended

uncut_more : (b : ℕ) (bs : List ℕ) (t : Bool) → Uncut bs → cond t (1 + prefix_len in_line bs) 0 ≡ suc (length bs) → cond t (longer b (lines bs)) (ended [] (lines bs)) ≡ not_ended
uncut_more b [] true ih e = refl
uncut_more b [] false ih e = absurd (omega arith)
uncut_more b (x ∷ bs) true ih e = ap (longer b) (ih (omega arith) (omega arith))
uncut_more b (x ∷ bs) false ih e = absurd (omega arith)

-- no end in some bytes leaves them as a line that is not ended
pub uncut : (bs : List ℕ) → Uncut bs
uncut [] e l = absurd (omega arith)
uncut (b ∷ bs) e l = uncut_more b bs (in_line b) (uncut bs) e

-- the first end of a line, where there is one
pub found : (bs : List ℕ) (k : ℕ) → Some k ≡ position (λ b. eqb b 10) bs → (k ≡ prefix_len in_line bs) × (k < length bs)
found bs k e = grind (arith, nat_tests)

-- no end of a line: every byte belongs to it
pub not_found : (bs : List ℕ) → None ≡ position (λ b. eqb b 10) bs → prefix_len in_line bs ≡ length bs
not_found bs e = let most = prefix_len-le-length in_line bs in grind (arith, nat_tests)

module _ (bytes : List ℕ) (place k : ℕ) (count : k ≡ prefix_len in_line (take (length bytes - place) (drop place bytes))) where
  counted : k ≡ prefix_len in_line (drop place bytes)
  counted = count ∙ ap (prefix_len in_line) (take_rest bytes place)

  pub first_line : k < length (take (length bytes - place) (drop place bytes)) → lines (drop place bytes) ≡ ended (take (k - 0) (take (length bytes - place) (drop place bytes))) (lines (drop (place + (k + 1)) bytes))
  first_line l =
      let s : List ℕ = drop place bytes in
      let within : prefix_len in_line s < length s = omega (arith, counted, ap length (take_rest bytes place)) in
      cut s within ∙ simp (← counted, take_rest, drop-drop, sub-zero)

  pub moved_on : k < length (take (length bytes - place) (drop place bytes)) → place + (k + 1) ≡ place_after place (lines (drop place bytes))
  moved_on l = sym (ap (place_after place) (first_line l) ∙ ap (λ j. place + (j + 1)) (rw sub-zero (length-take-le k (take (length bytes - place) (drop place bytes)) (omega arith))))

  pub last_line : length (take (length bytes - place) (drop place bytes)) ≤ k → (k ≡ 0 → ⊥) → lines (drop place bytes) ≡ not_ended
  last_line l e =
      let s : List ℕ = drop place bytes in
      let most = prefix_len-le-length in_line s in
      uncut s (omega (arith, counted, ap length (take_rest bytes place))) (omega (arith, counted, ap length (take_rest bytes place)))
