-- A refusal is placed on one of the first 67 lines.
use Rattle.std.proofs.Common.{◌≡◌, ℕ, zero, suc, ◌+◌, ◌%◌, ◌≤◌, Bool, true, false, cond, ◌&&◌, eqb, ltb, leb, List, [], ◌∷◌, ◌++◌, length, drop, Some, None, Ok, Err, Option, Result, sym, refl, subst, arith}
use Rattle.std.specs.List.{prefix_len}
use Rattle.std.proofs.lemmas.Bool.{leb-true, and_parts}
use Rattle.digits.specs.Digits.{is_digit, byte_at}
use Rattle.tasks.specs.declared.task.Task.{Task}
use Rattle.tasks.specs.declared.fault.DigitFault.TheVariants.{Bad, Odd}
use Rattle.tasks.specs.declared.fault.FrameFault.{FrameFault}
use Rattle.tasks.specs.declared.fault.FrameFault.TheVariants.{NoFrame}
use Rattle.tasks.specs.declared.fault.SheetFault.{SheetFault}
use Rattle.tasks.specs.declared.fault.SheetFault.TheVariants.{Frame, Counts, Places, Range, IdUsed, PeriodFalls}
use Rattle.tasks.specs.Refusals.{sheet_refusal}
use Rattle.tasks.specs.Tasks.{in_range}
use Rattle.frames.specs.Frames.{Told, opening, row, close, task_of, framed, unless_digits, frame_of}
use Rattle.sheet.specs.Lines.{Lines, no_more, not_ended, ended, lines, after, there, next_told}
use Rattle.sheet.specs.Reading.{Reading, counts_in_range, used, last_period, opening_of, row_of, close_of, end_of, unless_refused, from_rows, read_sheet, EarlyLine}

-- a fault, if any, is on the line
abbrev At : {X : Type 0} → ℕ → Result X SheetFault → Type 0
At line (Ok x) = Unit {0}
At line (Err fault) = (sheet_refusal fault).place ≡ line

abbrev ToldAt : {X : Type 0} → ℕ → Result X FrameFault → Type 0
ToldAt line (Ok x) = Unit {0}
ToldAt line (Err fault) = (sheet_refusal (Frame fault)).place ≡ line

framed_at : (line : ℕ) (a b c : Bool) (x y z : Told) → ToldAt line (cond a (Ok x) (cond b (Ok y) (cond c (Ok z) (Err (NoFrame line)))))
framed_at line true b c x y z = tt
framed_at line false true c x y z = tt
framed_at line false false true x y z = tt
framed_at line false false false x y z = refl

checked_at : (line i j : ℕ) (a b : Bool) (r : Result Told FrameFault) → ToldAt line r → ToldAt line (unless_digits (cond a (Err (Bad line i)) (cond b (Err (Odd line j)) (Ok tt))) r)
checked_at line i j true b r h = refl
checked_at line i j false true r h = refl
checked_at line i j false false r h = h

frame_at : (line : ℕ) (ds : List ℕ) → ToldAt line (frame_of line ds)
frame_at line ds =
    let kind = byte_at ds 0 in
    let fields = drop 2 ds in
    checked_at line (prefix_len is_digit ds + 1) (length ds + 1) (ltb (prefix_len is_digit ds) (length ds)) (eqb (length ds % 2) 1) (framed line kind fields)
    (framed_at line (eqb kind 1 && eqb (length fields) 4) (eqb kind 2 && eqb (length fields) 20) (eqb kind 3 && eqb (length fields) 0) (opening (byte_at fields 0) (byte_at fields 1)) (row (task_of fields)) close)

there_at : (line : ℕ) (x : Result Told FrameFault) → ToldAt line x → ToldAt line (there x)
there_at line (Ok told) h = tt
there_at line (Err fault) h = h

next_at : (n : ℕ) (ls : Lines) → ToldAt (n + 1) (next_told n ls)
next_at n no_more = tt
next_at n not_ended = refl
next_at n (ended ds rest) = there_at (n + 1) (frame_of (n + 1) ds) (frame_at (n + 1) ds)

row_checked_at : (line : ℕ) (t : Task) (a b c : Bool) → At line (cond a (cond b (Err (IdUsed line)) (cond c (Err (PeriodFalls line)) (Ok t))) (Err (Range line)))
row_checked_at line t true true c = refl
row_checked_at line t true false true = refl
row_checked_at line t true false false = tt
row_checked_at line t false b c = refl

row_at : (line : ℕ) (rows : List Task) (told : Result (Option Told) FrameFault) → ToldAt line told → At line (row_of line rows told)
row_at line rows (Err fault) h = h
row_at line rows (Ok None) h = refl
row_at line rows (Ok (Some (opening m k))) h = refl
row_at line rows (Ok (Some (row t))) h = row_checked_at line t (in_range t) (used t.id rows) (ltb t.period (last_period rows))
row_at line rows (Ok (Some close)) h = refl

close_at : (line : ℕ) (told : Result (Option Told) FrameFault) → ToldAt line told → At line (close_of line told)
close_at line (Err fault) h = h
close_at line (Ok None) h = refl
close_at line (Ok (Some (opening m k))) h = refl
close_at line (Ok (Some (row t))) h = refl
close_at line (Ok (Some close)) h = tt

end_at : (line : ℕ) (told : Result (Option Told) FrameFault) → ToldAt line told → At line (end_of line told)
end_at line (Err fault) h = h
end_at line (Ok None) h = tt
end_at line (Ok (Some told)) h = refl

-- an opening that is taken has at most 64 tasks
abbrev Few : Result (ℕ × ℕ) SheetFault → Type 0
Few (Ok x) = x.1 ≤ 64
Few (Err fault) = (sheet_refusal fault).place ≡ 1

counts_few : (m k : ℕ) (a b : Bool) → counts_in_range m k ≡ a → Few (cond a (cond b (Err (Places 1)) (Ok (m, k))) (Err (Counts 1)))
counts_few m k true true e = refl
counts_few m k true false e = leb-true k 64 (and_parts (leb 1 m && leb m 8) (leb k 64) e).1
counts_few m k false b e = refl

opening_few : (p : ℕ) (told : Result (Option Told) FrameFault) → ToldAt 1 told → Few (opening_of p 1 told)
opening_few p (Err fault) h = h
opening_few p (Ok None) h = refl
opening_few p (Ok (Some (opening m k))) h = counts_few m k (counts_in_range m k) (ltb p k) refl
opening_few p (Ok (Some (row t))) h = refl
opening_few p (Ok (Some close)) h = refl

-- a fault, if any, is on a line up to k
abbrev UpTo : ℕ → Result ℕ SheetFault → Type 0
UpTo k (Ok m) = Unit {0}
UpTo k (Err fault) = (sheet_refusal fault).place ≤ k

up_to : (j k : ℕ) (r : Result ℕ SheetFault) → j ≤ k → UpTo j r → UpTo k r
up_to j k (Ok m) l h = tt
up_to j k (Err fault) l h = omega arith

closing : (m n : ℕ) (rows : List Task) (a b : Result (Unit {0}) SheetFault) → At (n + 1) a → At (n + 2) b →
    UpTo (n + 2) (unless_refused a (Some rows) (λ _. unless_refused b (Some rows) (λ _. record { answer = Ok m; rows = Some rows }))).answer
closing m n rows (Err f) b ha hb = omega arith
closing m n rows (Ok u) (Err f) ha hb = omega arith
closing m n rows (Ok u) (Ok v) ha hb = tt

turn : (n k : ℕ) (rows : List Task) (a : Result Task SheetFault) (next : Task → Reading) → At (n + 1) a → n + 1 ≤ k → ((t : Task) → UpTo k (next t).answer) → UpTo k (unless_refused a (Some rows) next).answer
turn n k rows (Err f) next h l ih = omega arith
turn n k rows (Ok t) next h l ih = ih t

rows_up_to : (m left n : ℕ) (ls : Lines) (rows : List Task) → UpTo (n + left + 2) (from_rows m left n ls rows).answer
rows_up_to m zero n ls rows =
    let two : n + 1 + 1 ≡ n + 2 = omega arith in
    let e = subst (λ k. ToldAt k (next_told (n + 1) (after ls))) two (next_at (n + 1) (after ls)) in
    up_to (n + 2) (n + 0 + 2) (from_rows m 0 n ls rows).answer (omega arith)
    (closing m n rows (close_of (n + 1) (next_told n ls)) (end_of (n + 2) (next_told (n + 1) (after ls))) (close_at (n + 1) (next_told n ls) (next_at n ls)) (end_at (n + 2) (next_told (n + 1) (after ls)) e))
rows_up_to m (suc left) n ls rows =
    turn n (n + suc left + 2) rows (row_of (n + 1) rows (next_told n ls)) (λ t. from_rows m left (n + 1) (after ls) (rows ++ t ∷ [])) (row_at (n + 1) rows (next_told n ls) (next_at n ls)) (omega arith)
    (λ t. up_to (n + 1 + left + 2) (n + suc left + 2) (from_rows m left (n + 1) (after ls) (rows ++ t ∷ [])).answer (omega arith) (rows_up_to m left (n + 1) (after ls) (rows ++ t ∷ [])))

opened : (a : Result (ℕ × ℕ) SheetFault) (ls : Lines) → Few a → UpTo 67 (unless_refused a None (λ counts. from_rows counts.0 counts.1 1 ls [])).answer
opened (Err f) ls h = omega arith
opened (Ok counts) ls h = up_to (1 + counts.1 + 2) 67 (from_rows counts.0 counts.1 1 ls []).answer (omega arith) (rows_up_to counts.0 counts.1 1 ls [])

pub read_early : (bytes : List ℕ) (places : ℕ) → UpTo 67 (read_sheet bytes places).answer
read_early bytes places = opened (opening_of places 1 (next_told 0 (lines bytes))) (after (lines bytes)) (opening_few places (next_told 0 (lines bytes)) (next_at 0 (lines bytes)))

early : (r : Result ℕ SheetFault) → UpTo 67 r → EarlyLine r
early (Ok m) h = tt
early (Err f) h = h

pub early_line : (bytes : List ℕ) (places : ℕ) (r : Result ℕ SheetFault) → r ≡ (read_sheet bytes places).answer → EarlyLine r
early_line bytes places r e = subst EarlyLine (sym e) (early (read_sheet bytes places).answer (read_early bytes places))
