-- Appendices with the same text quote the same.
use Rattle.std.proofs.Common.{◌≡◌, ℕ, ◌+◌, ◌*◌, ◌/◌, ◌%◌, List, [], ◌∷◌, ◌++◌, map, get_or, drop, sym, refl, ap, ◌∙◌, arith}
use native.Mathlib.Nat.{div-add-mod}
use Rattle.std.specs.List.{flat_map}
use Rattle.std.proofs.lemmas.Bool.Decides.{nat_tests}
use Rattle.digits.specs.Digits.{printed}
use Rattle.planner.specs.declared.row.Row.{Row}
use Rattle.printout.specs.Texts.{line_of, row_text, appendix_text, quote_of, TextsTellQuotes}

-- different values have different digits
same_digit : (u v : ℕ) → printed u ≡ printed v → u ≡ v
same_digit u v e = grind (arith, nat_tests)

-- so a byte is told by its two digits
same_byte : (a b : ℕ) → printed (a / 16) ≡ printed (b / 16) → printed (a % 16) ≡ printed (b % 16) → a ≡ b
same_byte a b h l =
    let q = same_digit (a / 16) (b / 16) h in
    let r = same_digit (a % 16) (b % 16) l in
    sym (div-add-mod a 16) ∙ (λ i. 16 * q i + r i) ∙ div-add-mod b 16

-- and a number by its two bytes
same_word : (a b : ℕ) → a / 256 ≡ b / 256 → a % 256 ≡ b % 256 → a ≡ b
same_word a b h l = sym (div-add-mod a 256) ∙ (λ i. 256 * h i + l i) ∙ div-add-mod b 256

module _ (x y : List ℕ) (e : x ≡ y) where
  -- what stands at a place of the one stands there in the other
  at : (k : ℕ) → get_or x k 0 ≡ get_or y k 0
  at k = ap (λ l. get_or l k 0) e

-- the line of a row tells its quote
same_quote : (a b : Row) (x y : List ℕ) → row_text a ++ x ≡ row_text b ++ y → quote_of a ≡ quote_of b
same_quote a b x y e =
    let c : (k : ℕ) → get_or (row_text a ++ x) k 0 ≡ get_or (row_text b ++ y) k 0 = at (row_text a ++ x) (row_text b ++ y) e in
    let id = same_byte a.task.id b.task.id (c 2) (c 3) in
    let on = same_byte a.controller b.controller (c 4) (c 5) in
    let everyday = same_word a.starts.everyday b.starts.everyday
    (same_byte (a.starts.everyday / 256) (b.starts.everyday / 256) (c 6) (c 7))
    (same_byte (a.starts.everyday % 256) (b.starts.everyday % 256) (c 8) (c 9)) in
    let critical = same_word a.starts.critical b.starts.critical
    (same_byte (a.starts.critical / 256) (b.starts.critical / 256) (c 10) (c 11))
    (same_byte (a.starts.critical % 256) (b.starts.critical % 256) (c 12) (c 13)) in
    λ i. record { id = id i; controller = on i; everyday = everyday i; critical = critical i }

-- what comes after the line of a row
after_row : (a b : Row) (x y : List ℕ) → row_text a ++ x ≡ row_text b ++ y → x ≡ y
after_row a b x y e = ap (drop 15) e

-- the lines of some rows and the close tell the quotes of the rows
same_rows : (rows others : List Row) → flat_map row_text rows ++ line_of (6 ∷ []) ≡ flat_map row_text others ++ line_of (6 ∷ []) → map quote_of rows ≡ map quote_of others
same_rows [] [] e = refl
same_rows [] (b ∷ others) e = absurd (let z : ◌≡◌ {A = ℕ} 54 53 = ap (λ l. get_or l 1 0) e in omega arith)
same_rows (a ∷ rows) [] e = absurd (let z : ◌≡◌ {A = ℕ} 53 54 = ap (λ l. get_or l 1 0) e in omega arith)
same_rows (a ∷ rows) (b ∷ others) e =
    let x : List ℕ = flat_map row_text rows ++ line_of (6 ∷ []) in
    let y : List ℕ = flat_map row_text others ++ line_of (6 ∷ []) in
    λ i. same_quote a b x y e i ∷ same_rows rows others (after_row a b x y e) i

pub texts_tell_quotes : TextsTellQuotes
texts_tell_quotes m n rows others e =
    let c : (k : ℕ) → get_or (appendix_text m rows) k 0 ≡ get_or (appendix_text n others) k 0 = at (appendix_text m rows) (appendix_text n others) e in
    (same_byte m n (c 2) (c 3), same_rows rows others (ap (drop 7) e))
