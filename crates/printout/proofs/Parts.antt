-- Parts written one after the other.
use Rattle.std.proofs.Common.{◌≡◌, ℕ, ◌+◌, ◌-◌, ◌*◌, ◌<◌, ◌≤◌, List, [], ◌∷◌, ◌++◌, length, take, drop, Ok, Err, sym, refl, ap, ◌∙◌, ap₂, arith, length-append, length-drop}
use lib.Seq.{drop-append-add}
use Rattle.std.specs.List.{flat_map}
use borrow.Rule.Slice.PartMut.{put_mid}
use Rattle.std.proofs.lemmas.List.{append_assoc, append-nil, drop-drop, flat_map_more, length-take-le, take_at, take_rest, drop_all}
use Rattle.tasks.specs.declared.fault.AppendixFault.TheVariants.{Places}
use Rattle.planner.specs.declared.row.Row.{Row}
use Rattle.printout.specs.Texts.{line_of, row_text, appendix_text, Wrote}

-- a text written at the beginning of the places after the first n
pub spliced
    : (text out sub : List ℕ) (n k size : ℕ)
    → size ≡ length out - n
    → n ≤ length out
    → sub ≡ text ++ drop k (take size (drop n out)) → put_mid n size out sub ≡ take n out ++ (text ++ drop (n + k) out)
spliced text out sub n k size all room e =
    let rest : take size (drop n out) ≡ drop n out = ap (λ j. take j (drop n out)) all ∙ take_rest out n in
    let written : sub ≡ text ++ drop (n + k) out = e ∙ ap (λ xs. text ++ drop k xs) rest ∙ ap (λ xs. text ++ xs) (drop-drop k n out) in
    let nothing : drop size (drop n out) ≡ [] = drop_all size (drop n out) (omega (arith, length-drop n out)) in
    ap₂ (λ xs ys. take n out ++ (xs ++ ys)) written nothing ∙ ap (λ xs. take n out ++ xs) (append-nil (text ++ drop (n + k) out))

-- a text written right after what was written before it
pub put_part
    : (front text before out next : List ℕ) (n k : ℕ)
    → length front ≡ n
    → length text ≡ k
    → out ≡ front ++ drop n before
    → next ≡ take n out ++ (text ++ drop (n + k) out) → next ≡ (front ++ text) ++ drop (n + k) before
put_part front text before out next n k long short e f =
    let kept : take n out ≡ front = ap (take n) e ∙ take_at front (drop n before) n long in
    let rest : drop (n + k) out ≡ drop (n + k) before =
    ap (drop (n + k)) e ∙ ap (λ j. drop (j + k) (front ++ drop n before)) (sym long) ∙ drop-append-add front (drop n before) k ∙ drop-drop k n before in
    f ∙ (λ i. kept i ++ (text ++ rest i)) ∙ sym (append_assoc front text (drop (n + k) before))

pub length_rows : (rows : List Row) → length (flat_map row_text rows) ≡ 15 * length rows
length_rows [] = refl
length_rows (r ∷ rows) = omega (arith, length_rows rows)

module _ (before : List ℕ) (rows : List Row) (room : 15 * length rows ≤ length before) where
  -- one row more
  pub rows_more
      : (i : ℕ) (row : Row) (out sub : List ℕ)
      → i + 1 ≤ length rows
      → length out ≡ length before
      → take (i + 1) rows ≡ take i rows ++ row ∷ []
      → out ≡ flat_map row_text (take i rows) ++ drop (15 * i) before
      → sub ≡ row_text row ++ drop 15 (take (length out - 15 * i) (drop (15 * i) out))
      → put_mid (15 * i) (length out - 15 * i) out sub ≡ flat_map row_text (take (i + 1) rows) ++ drop (15 * (i + 1)) before
  rows_more i row out sub l same more e f =
      let next : List ℕ = put_mid (15 * i) (length out - 15 * i) out sub in
      let written = spliced (row_text row) out sub (15 * i) 15 (length out - 15 * i) refl (omega arith) f in
      let front : List ℕ = flat_map row_text (take i rows) in
      let long : length front ≡ 15 * i = omega (arith, length_rows (take i rows), length-take-le i rows (omega arith)) in
      let all : front ++ row_text row ≡ flat_map row_text (take (i + 1) rows) =
      flat_map_more row_text [] (take i rows) row ∙ ap (flat_map row_text) (sym more) in
      let further : 15 * i + 15 ≡ 15 * (i + 1) = omega arith in
      put_part front (row_text row) before out next (15 * i) 15 long refl e written ∙ (λ j. all j ++ drop (further j) before)

-- the opening, the rows and the close make the appendix
pub whole
    : (m n : ℕ) (rows : List Row) (before opened rowed closed : List ℕ)
    → n ≡ 7 + 15 * length rows + 3
    → n ≤ length before
    → opened ≡ line_of (4 ∷ m ∷ length rows ∷ []) ++ drop 7 before
    → (sub : List ℕ) → sub ≡ flat_map row_text rows ++ drop (15 * length rows) (take (length opened - 7) (drop 7 opened))
    → rowed ≡ put_mid 7 (length opened - 7) opened sub
    → (end : List ℕ) → end ≡ line_of (6 ∷ []) ++ drop 3 (take (length rowed - (n - 3)) (drop (n - 3) rowed))
    → closed ≡ put_mid (n - 3) (length rowed - (n - 3)) rowed end
    → length opened ≡ length before
    → length rowed ≡ length before
    → Wrote (appendix_text m rows) before (Ok n) closed
whole m n rows before opened rowed closed is room o sub part parts end last lasts same same_again =
    let r = parts ∙ spliced (flat_map row_text rows) opened sub 7 (15 * length rows) (length opened - 7) refl (omega arith) part in
    let c = lasts ∙ spliced (line_of (6 ∷ [])) rowed end (n - 3) 3 (length rowed - (n - 3)) refl (omega arith) last in
    let head : List ℕ = line_of (4 ∷ m ∷ length rows ∷ []) in
    let body : List ℕ = flat_map row_text rows in
    let tail : List ℕ = line_of (6 ∷ []) in
    let short = length_rows rows in
    let one : rowed ≡ (head ++ body) ++ drop (7 + 15 * length rows) before = put_part head body before opened rowed 7 (15 * length rows) refl short o r in
    let place : n - 3 ≡ 7 + 15 * length rows = omega arith in
    let after : closed ≡ take (7 + 15 * length rows) rowed ++ (tail ++ drop (7 + 15 * length rows + 3) rowed) = c ∙ (λ j. take (place j) rowed ++ (tail ++ drop (place j + 3) rowed)) in
    let long : length (head ++ body) ≡ 7 + 15 * length rows = length-append head body ∙ omega (arith, short) in
    let two : closed ≡ ((head ++ body) ++ tail) ++ drop (7 + 15 * length rows + 3) before = put_part (head ++ body) tail before rowed closed (7 + 15 * length rows) 3 long refl one after in
    let size : length (appendix_text m rows) ≡ n = length-append head (body ++ tail) ∙ omega (arith, length-append body tail, short) in
    let all : 7 + 15 * length rows + 3 ≡ length (appendix_text m rows) = omega (arith, size) in
    (omega (arith, size), sym size, two ∙ (λ j. append_assoc head body tail j ++ drop (all j) before))

-- too few bytes for the appendix
pub too_few : (m : ℕ) (rows : List Row) (before : List ℕ) → length before < 7 + 15 * length rows + 3 → Wrote (appendix_text m rows) before (Err Places) before
too_few m rows before l = (omega (arith, length-append (line_of (4 ∷ m ∷ length rows ∷ [])) (flat_map row_text rows ++ line_of (6 ∷ [])), length-append (flat_map row_text rows) (line_of (6 ∷ [])), length_rows rows), refl, refl)
