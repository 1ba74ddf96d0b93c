-- The reader takes exactly the texts of valid sheets.
use Rattle.std.proofs.Common.{◌≡◌, ℕ, zero, suc, ◌+◌, ◌≤◌, Bool, true, false, cond, ◌&&◌, eqb, ltb, leb, ◌↔◌, List, [], ◌∷◌, ◌++◌, length, take, drop, Some, None, Ok, Err, Option, Result, sym, refl, ap, ◌∙◌, subst, arith, lit<, rules}
use Rattle.std.specs.List.{flat_map}
use Rattle.std.proofs.lemmas.List.{append-nil, append_assoc, take_at}
use Rattle.std.proofs.lemmas.Bool.{le-ltb, ltb-false, le-leb, leb-true, and_parts, eqb-true, not-false}
use Rattle.digits.specs.Digits.{is_digit}
use Rattle.tasks.specs.declared.task.Task.{Task}
use Rattle.tasks.specs.declared.fault.FrameFault.{FrameFault}
use Rattle.tasks.specs.declared.fault.SheetFault.{SheetFault}
use Rattle.tasks.specs.declared.fault.SheetFault.TheVariants.{Places, Counts, Range, IdUsed, PeriodFalls}
use Rattle.tasks.specs.Tasks.{in_range}
use Rattle.frames.specs.Frames.{Told, opening, row, close, frame_of}
use Rattle.sheet.specs.Lines.{Lines, no_more, not_ended, ended, in_line, longer, lines, after, there, next_told}
use Rattle.sheet.specs.Reading.{Reading, counts_in_range, used, last_period, row_checked, opening_of, row_of, close_of, end_of, unless_refused, from_rows, read_sheet, places_after, length_after}
use Rattle.frames.specs.Texts.{frame_bytes, frame_digits, line_text, Fits}
use Rattle.sheet.specs.Text.{rows_and_close, text, Valid, TakesExactly}
use Rattle.digits.proofs.Printed.{Digits, digits_printed}
use Rattle.frames.proofs.FrameTexts.{told_read, told_text}
use Rattle.sheet.proofs.Rules.{Follows, Accepted, accepted_valid, valid_accepted}

abbrev reading : Result ℕ SheetFault → Option (List Task) → Reading
reading a rows = record { answer = a; rows = rows }

digit_in_line : (c : ℕ) → is_digit c ≡ true → in_line c ≡ true
digit_in_line c e = search rules

-- the text of a frame is one line
lines_of : (ds rest : List ℕ) → Digits ds → lines (ds ++ 10 ∷ rest) ≡ ended ds (lines rest)
lines_of [] rest h = refl
lines_of (d ∷ ds) rest h = rw (digit_in_line d h.0, lines_of ds rest h.1)

line_of : (told : Told) (rest : List ℕ) → Fits told → lines (line_text told ++ rest) ≡ ended (frame_digits told) (lines rest)
line_of told rest f = ap lines (append_assoc (frame_digits told) (10 ∷ []) rest) ∙ lines_of (frame_digits told) rest (digits_printed (frame_bytes told) f)

next_of : (n : ℕ) (told : Told) (rest : List ℕ) → Fits told → next_told n (lines (line_text told ++ rest)) ≡ Ok (Some told)
next_of n told rest f = ap (next_told n) (line_of told rest f) ∙ ap there (told_read (n + 1) told f)

after_of : (told : Told) (rest : List ℕ) → Fits told → after (lines (line_text told ++ rest)) ≡ lines rest
after_of told rest f = ap after (line_of told rest f)

row_taken : (line : ℕ) (done : List Task) (t : Task) → Follows done t → row_checked line done t ≡ Ok t
row_taken line done t f = rw (f.0, f.1, f.2)

-- the text of rows that follow one another is read as those rows
rows_taken : (m n : ℕ) (done todo : List Task) → Accepted done todo → from_rows m (length todo) n (lines (flat_map line_text (rows_and_close todo))) done ≡ reading (Ok m) (Some (done ++ todo))
rows_taken m n done [] h = ap (λ d. reading (Ok m) (Some d)) (sym (append-nil done))
rows_taken m n done (t ∷ todo) h =
    let rest : List ℕ = flat_map line_text (rows_and_close todo) in
    let f = h.1 in
    ap (λ told. unless_refused (row_of (n + 1) done told) (Some done) (λ t'. from_rows m (length todo) (n + 1) (after (lines (line_text (row t) ++ rest))) (done ++ t' ∷ []))) (next_of n (row t) rest f)
    ∙ ap (λ r. unless_refused r (Some done) (λ t'. from_rows m (length todo) (n + 1) (after (lines (line_text (row t) ++ rest))) (done ++ t' ∷ []))) (row_taken (n + 1) done t h.0)
    ∙ ap (λ ls. from_rows m (length todo) (n + 1) ls (done ++ t ∷ [])) (after_of (row t) rest f)
    ∙ rows_taken m (n + 1) (done ++ t ∷ []) todo h.2
    ∙ ap (λ d. reading (Ok m) (Some d)) (append_assoc done (t ∷ []) todo)

counts_by : (m k : ℕ) → (1 ≤ m) × (m ≤ 8) → k ≤ 64 → counts_in_range m k ≡ true
counts_by m k h l = rw (le-leb 1 m h.0, le-leb m 8 h.1, le-leb k 64 l)

-- the text of a valid sheet is read as that sheet
pub text_taken : (m places : ℕ) (rows : List Task) → Valid m rows → length rows ≤ places → read_sheet (text m rows) places ≡ reading (Ok m) (Some rows)
text_taken m places rows v l =
    let rest : List ℕ = flat_map line_text (rows_and_close rows) in
    let k : ℕ = length rows in
    let f : Fits (opening m k) = (lit< tt, (omega (arith, v.controllers), (omega (arith, v.tasks), tt))) in
    let c : opening_of places 1 (Ok (Some (opening m k))) ≡ Ok (m, k) = rw (counts_by m k v.controllers v.tasks, le-ltb places k l) in
    ap (λ told. unless_refused (opening_of places 1 told) None (λ counts. from_rows counts.0 counts.1 1 (after (lines (line_text (opening m k) ++ rest))) [])) (next_of 0 (opening m k) rest f)
    ∙ ap (λ r. unless_refused r None (λ counts. from_rows counts.0 counts.1 1 (after (lines (line_text (opening m k) ++ rest))) [])) c
    ∙ ap (λ ls. from_rows m k 1 ls []) (after_of (opening m k) rest f)
    ∙ rows_taken m 1 [] rows (valid_accepted [] rows v.each)

-- every line is ended
abbrev Whole : Lines → Type 0
Whole no_more = Unit {0}
Whole not_ended = ⊥
Whole (ended ds rest) = Whole rest

-- the bytes of lines that are ended
abbrev unlines : Lines → List ℕ
unlines no_more = []
unlines not_ended = []
unlines (ended ds rest) = ds ++ 10 ∷ unlines rest

longer_bytes : (b : ℕ) (bs : List ℕ) (ls : Lines) → (Whole ls → bs ≡ unlines ls) → Whole (longer b ls) → b ∷ bs ≡ unlines (longer b ls)
longer_bytes b bs no_more ih w = absurd w
longer_bytes b bs not_ended ih w = absurd w
longer_bytes b bs (ended ds rest) ih w = ap (λ x. b ∷ x) (ih w)

unlines_more : (b : ℕ) (bs : List ℕ) (t : Bool) → in_line b ≡ t → (Whole (lines bs) → bs ≡ unlines (lines bs)) → Whole (cond t (longer b (lines bs)) (ended [] (lines bs))) → b ∷ bs ≡ unlines (cond t (longer b (lines bs)) (ended [] (lines bs)))
unlines_more b bs true e ih w = longer_bytes b bs (lines bs) ih w
unlines_more b bs false e ih w = λ i. eqb-true b 10 (not-false (eqb b 10) e) i ∷ ih w i

-- lines that are all ended have the bytes that they were cut from
unlines_lines : (bs : List ℕ) → Whole (lines bs) → bs ≡ unlines (lines bs)
unlines_lines [] w = refl
unlines_lines (b ∷ bs) w = unlines_more b bs (in_line b) refl (unlines_lines bs) w

not_taken : (f : SheetFault) (rows : Option (List Task)) (m : ℕ) (rows' : Option (List Task)) → reading (Err f) rows ≡ reading (Ok m) rows' → ⊥
not_taken f rows m rows' e = let s : Err f ≡ Ok m = ap (λ r. r.answer) e in let z : ◌≡◌ {A = ℕ} 0 1 = cc in omega arith

-- what was read after some rows
record Rest (m left : ℕ) (ls : Lines) (done : List Task) (m' : ℕ) (rows : List Task) : Type 0 where
  todo : List Task
  same : m ≡ m'
  all : done ++ todo ≡ rows
  count : length todo ≡ left
  whole : Whole ls
  bytes : unlines ls ≡ flat_map line_text (rows_and_close todo)
  rules : Accepted done todo

nothing_after : (m n : ℕ) (rest : Lines) (done : List Task) (m' : ℕ) (rows : List Task) → unless_refused (end_of (n + 2) (next_told (n + 1) rest)) (Some done) (λ _. reading (Ok m) (Some done)) ≡ reading (Ok m') (Some rows) → (rest ≡ no_more) × (m ≡ m') × (done ≡ rows)
nothing_after m n no_more done m' rows e =
    let a : Ok m ≡ Ok m' = ap (λ r. r.answer) e in
    let s : m ≡ m' = cc in
    let b : Some done ≡ Some rows = ap (λ r. r.rows) e in
    let d : done ≡ rows = cc in
    (refl, s, d)
nothing_after m n not_ended done m' rows e = absurd (not_taken _ _ _ _ e)
nothing_after m n (ended ds rest) done m' rows e = absurd (go (frame_of (n + 1 + 1) ds) e)
  where
    go : (x : Result Told FrameFault) → unless_refused (end_of (n + 2) (there x)) (Some done) (λ _. reading (Ok m) (Some done)) ≡ reading (Ok m') (Some rows) → ⊥
    go (Err f) e = not_taken _ _ _ _ e
    go (Ok told) e = not_taken _ _ _ _ e

close_read : (m n : ℕ) (ds : List ℕ) (rest : Lines) (done : List Task) (m' : ℕ) (rows : List Task) (x : Result Told FrameFault) → frame_of (n + 1) ds ≡ x →
    unless_refused (close_of (n + 1) (there x)) (Some done) (λ _. unless_refused (end_of (n + 2) (next_told (n + 1) rest)) (Some done) (λ _. reading (Ok m) (Some done))) ≡ reading (Ok m') (Some rows) → Rest m 0 (ended ds rest) done m' rows
close_read m n ds rest done m' rows (Err f) x e = absurd (not_taken _ _ _ _ e)
close_read m n ds rest done m' rows (Ok (opening k l)) x e = absurd (not_taken _ _ _ _ e)
close_read m n ds rest done m' rows (Ok (row t)) x e = absurd (not_taken _ _ _ _ e)
close_read m n ds rest done m' rows (Ok close) x e =
    let p = nothing_after m n rest done m' rows e in
    record {
      todo = [];
      same = p.1;
      all = append-nil done ∙ p.2;
      count = refl;
      whole = subst Whole (sym p.0) tt;
      bytes = (λ i. (told_text (n + 1) ds close x).0 i ++ 10 ∷ unlines (p.0 i));
      rules = tt;
    }

checked_row : (line : ℕ) (done : List Task) (t : Task) (X : Type 0) (next : Task → Reading) (m' : ℕ) (rows : List Task) (a b c : Bool) → in_range t ≡ a → used t.id done ≡ b → ltb t.period (last_period done) ≡ c →
    unless_refused (cond a (cond b (Err (IdUsed line)) (cond c (Err (PeriodFalls line)) (Ok t))) (Err (Range line))) (Some done) next ≡ reading (Ok m') (Some rows) →
    (Follows done t → next t ≡ reading (Ok m') (Some rows) → X) → X
checked_row line done t X next m' rows true true c ea eb ec e k = absurd (not_taken _ _ _ _ e)
checked_row line done t X next m' rows true false true ea eb ec e k = absurd (not_taken _ _ _ _ e)
checked_row line done t X next m' rows true false false ea eb ec e k = k (ea, eb, ec) e
checked_row line done t X next m' rows false b c ea eb ec e k = absurd (not_taken _ _ _ _ e)

row_read : (m left n : ℕ) (ds : List ℕ) (rest : Lines) (done : List Task) (m' : ℕ) (rows : List Task) →
    ((done' : List Task) → from_rows m left (n + 1) rest done' ≡ reading (Ok m') (Some rows) → Rest m left rest done' m' rows) →
    (x : Result Told FrameFault) → frame_of (n + 1) ds ≡ x →
    unless_refused (row_of (n + 1) done (there x)) (Some done) (λ t. from_rows m left (n + 1) rest (done ++ t ∷ [])) ≡ reading (Ok m') (Some rows) → Rest m (suc left) (ended ds rest) done m' rows
row_read m left n ds rest done m' rows ih (Err f) x e = absurd (not_taken _ _ _ _ e)
row_read m left n ds rest done m' rows ih (Ok (opening k l)) x e = absurd (not_taken _ _ _ _ e)
row_read m left n ds rest done m' rows ih (Ok close) x e = absurd (not_taken _ _ _ _ e)
row_read m left n ds rest done m' rows ih (Ok (row t)) x e =
    checked_row (n + 1) done t (Rest m (suc left) (ended ds rest) done m' rows) (λ t'. from_rows m left (n + 1) rest (done ++ t' ∷ [])) m' rows
    (in_range t) (used t.id done) (ltb t.period (last_period done)) refl refl refl e
    (λ f e'.
    let r = ih (done ++ t ∷ []) e' in
    let p = told_text (n + 1) ds (row t) x in
    record {
      todo = t ∷ r.todo;
      same = r.same;
      all = sym (append_assoc done (t ∷ []) r.todo) ∙ r.all;
      count = ap suc r.count;
      whole = r.whole;
      bytes = (λ i. p.0 i ++ 10 ∷ r.bytes i) ∙ sym (append_assoc (frame_digits (row t)) (10 ∷ []) (flat_map line_text (rows_and_close r.todo)));
      rules = (f, p.1, r.rules);
    })

-- lines that are read to the end are the text of the rows read
rows_read : (m left n : ℕ) (ls : Lines) (done : List Task) (m' : ℕ) (rows : List Task) → from_rows m left n ls done ≡ reading (Ok m') (Some rows) → Rest m left ls done m' rows
rows_read m zero n no_more done m' rows e = absurd (not_taken _ _ _ _ e)
rows_read m zero n not_ended done m' rows e = absurd (not_taken _ _ _ _ e)
rows_read m zero n (ended ds rest) done m' rows e = close_read m n ds rest done m' rows (frame_of (n + 1) ds) refl e
rows_read m (suc left) n no_more done m' rows e = absurd (not_taken _ _ _ _ e)
rows_read m (suc left) n not_ended done m' rows e = absurd (not_taken _ _ _ _ e)
rows_read m (suc left) n (ended ds rest) done m' rows e = row_read m left n ds rest done m' rows (λ done'. rows_read m left (n + 1) rest done' m' rows) (frame_of (n + 1) ds) refl e

-- what a reading that took the sheet says of it
abbrev Taken : List ℕ → ℕ → ℕ → List Task → Type 0
Taken bytes places m rows = (bytes ≡ text m rows) × Valid m rows × (length rows ≤ places)

opening_read : (places : ℕ) (bytes ds : List ℕ) (rest : Lines) (m' : ℕ) (rows : List Task) → lines bytes ≡ ended ds rest → (x : Result Told FrameFault) → frame_of 1 ds ≡ x →
    unless_refused (opening_of places 1 (there x)) None (λ counts. from_rows counts.0 counts.1 1 rest []) ≡ reading (Ok m') (Some rows) → Taken bytes places m' rows
opening_read places bytes ds rest m' rows l (Err f) x e = absurd (not_taken _ _ _ _ e)
opening_read places bytes ds rest m' rows l (Ok close) x e = absurd (not_taken _ _ _ _ e)
opening_read places bytes ds rest m' rows l (Ok (row t)) x e = absurd (not_taken _ _ _ _ e)
opening_read places bytes ds rest m' rows l (Ok (opening m k)) x e = go (counts_in_range m k) (ltb places k) refl refl e
  where
    go : (a b : Bool) → counts_in_range m k ≡ a → ltb places k ≡ b →
        unless_refused {X = ℕ × ℕ} (cond a (cond b (Err (Places 1)) (Ok (m, k))) (Err (Counts 1))) None (λ counts. from_rows counts.0 counts.1 1 rest []) ≡ reading (Ok m') (Some rows) → Taken bytes places m' rows
    go false b ea eb e = absurd (not_taken _ _ _ _ e)
    go true true ea eb e = absurd (not_taken _ _ _ _ e)
    go true false ea eb e =
        let r = rows_read m k 1 rest [] m' rows e in
        let p = told_text 1 ds (opening m k) x in
        let q = and_parts (leb 1 m && leb m 8) (leb k 64) ea in
        let q' = and_parts (leb 1 m) (leb m 8) q.0 in
        let v = accepted_valid [] r.todo (record { ids = tt; numbers = tt; apart = tt; rising = tt }) r.rules in
        let sheet : Taken bytes places m r.todo = (
          unlines_lines bytes (subst Whole (sym l) r.whole) ∙ ap unlines l ∙ (λ i. p.0 i ++ 10 ∷ r.bytes i) ∙ sym (append_assoc (frame_digits (opening m k)) (10 ∷ []) (flat_map line_text (rows_and_close r.todo))) ∙ ap (λ c. flat_map line_text (opening m c ∷ rows_and_close r.todo)) (sym r.count),
          record {
            controllers = (leb-true 1 m q'.0, leb-true m 8 q'.1);
            tasks = omega (arith, r.count, leb-true k 64 q.1);
            each = v;
          },
          omega (arith, r.count, ltb-false places k eb),
        ) in
        subst (λ n. Taken bytes places n rows) r.same (subst (Taken bytes places m) r.all sheet)

by_lines : (places : ℕ) (bytes : List ℕ) (ls : Lines) (m' : ℕ) (rows : List Task) → lines bytes ≡ ls →
    unless_refused (opening_of places 1 (next_told 0 ls)) None (λ counts. from_rows counts.0 counts.1 1 (after ls) []) ≡ reading (Ok m') (Some rows) → Taken bytes places m' rows
by_lines places bytes no_more m' rows l e = absurd (not_taken _ _ _ _ e)
by_lines places bytes not_ended m' rows l e = absurd (not_taken _ _ _ _ e)
by_lines places bytes (ended ds rest) m' rows l e = opening_read places bytes ds rest m' rows l (frame_of 1 ds) refl e

-- a reading that took the sheet, and the texts of valid sheets
read_exactly : (bytes : List ℕ) (places m : ℕ) (rows : List Task) → (read_sheet bytes places ≡ reading (Ok m) (Some rows)) ↔ Taken bytes places m rows
read_exactly bytes places m rows = (
  (λ e. by_lines places bytes (lines bytes) m rows refl e),
  (λ h. ap (λ b. read_sheet b places) h.0 ∙ text_taken m places rows h.1 h.2),
)

-- after the opening the list is begun
begun : (m left n : ℕ) (ls : Lines) (done : List Task) → (rows : List Task) × ((from_rows m left n ls done).rows ≡ Some rows)
begun m zero n ls done = closing (close_of (n + 1) (next_told n ls)) (end_of (n + 2) (next_told (n + 1) (after ls)))
  where
    closing : (a b : Result (Unit {0}) SheetFault) → (rows : List Task) × ((unless_refused a (Some done) (λ _. unless_refused b (Some done) (λ _. reading (Ok m) (Some done)))).rows ≡ Some rows)
    closing (Err f) b = (done, refl)
    closing (Ok u) (Err f) = (done, refl)
    closing (Ok u) (Ok v) = (done, refl)
begun m (suc left) n ls done = turn (row_of (n + 1) done (next_told n ls)) (λ t. begun m left (n + 1) (after ls) (done ++ t ∷ []))
  where
    turn : (a : Result Task SheetFault) → ((t : Task) → (rows : List Task) × ((from_rows m left (n + 1) (after ls) (done ++ t ∷ [])).rows ≡ Some rows)) → (rows : List Task) × ((unless_refused a (Some done) (λ t. from_rows m left (n + 1) (after ls) (done ++ t ∷ []))).rows ≡ Some rows)
    turn (Err f) ih = (done, refl)
    turn (Ok t) ih = ih t

taken_begun : (ls : Lines) (m : ℕ) (a : Result (ℕ × ℕ) SheetFault) → (unless_refused a None (λ counts. from_rows counts.0 counts.1 1 (after ls) [])).answer ≡ Ok m → (rows : List Task) × ((unless_refused a None (λ counts. from_rows counts.0 counts.1 1 (after ls) [])).rows ≡ Some rows)
taken_begun ls m (Err f) e = absurd (let z : ◌≡◌ {A = ℕ} 0 1 = cc in omega arith)
taken_begun ls m (Ok counts) e = begun counts.0 counts.1 1 (after ls) []

-- the law of the reader, from what the call delivers
pub takes_exactly : (bytes : List ℕ) (before : List Task) (old : ℕ) (answer : Result ℕ SheetFault) (places : List Task) (len : ℕ) →
    answer ≡ (read_sheet bytes (length before)).answer → places ≡ places_after (read_sheet bytes (length before)).rows before → len ≡ length_after (read_sheet bytes (length before)).rows old →
    TakesExactly bytes (length before) answer (take len places)
takes_exactly bytes before old answer places len ea ep el m rows = (there_is, back)
  where
    kept_are : (rs : List Task) → (read_sheet bytes (length before)).rows ≡ Some rs → take len places ≡ rs
    kept_are rs e =
        (λ i. take ((el ∙ ap (λ o. length_after o old) e) i) ((ep ∙ ap (λ o. places_after o before) e) i)) ∙ take_at rs (drop (length rs) before) (length rs) refl

    there_is : (answer ≡ Ok m) × (take len places ≡ rows) → Taken bytes (length before) m rows
    there_is h =
        let a : (read_sheet bytes (length before)).answer ≡ Ok m = sym ea ∙ h.0 in
        let b = taken_begun (lines bytes) m (opening_of (length before) 1 (next_told 0 (lines bytes))) a in
        (read_exactly bytes (length before) m rows).0 (λ i. reading (a i) ((b.1 ∙ ap Some (sym (kept_are b.0 b.1) ∙ h.1)) i))

    back : Taken bytes (length before) m rows → (answer ≡ Ok m) × (take len places ≡ rows)
    back h =
        let s = (read_exactly bytes (length before) m rows).1 h in
        (ea ∙ ap (λ r. r.answer) s, kept_are rows (ap (λ r. r.rows) s))
