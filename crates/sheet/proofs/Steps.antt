-- What one turn of the reading keeps, and what it has delivered when it ends.
use Rattle.std.proofs.Common.{◌≡◌, ℕ, zero, suc, ◌+◌, ◌-◌, ◌<◌, ◌≤◌, Bool, true, false, cond, ltb, List, [], ◌∷◌, ◌++◌, length, get_or, take, drop, set, IsErrAnd, Some, None, Ok, Err, Option, Result, sym, refl, ap, ◌∙◌, subst, arith}
use Rattle.std.proofs.lemmas.List.{take_at, drop_more, set_at, append_assoc, length_push}
use Rattle.std.proofs.lemmas.Bool.{ltb-false}
use Rattle.std.proofs.lemmas.Result.{err_from_is_err_and}
use Rattle.tasks.specs.declared.task.Task.{Task}
use Rattle.tasks.specs.declared.fault.FrameFault.{FrameFault}
use Rattle.tasks.specs.declared.fault.SheetFault.{SheetFault}
use Rattle.tasks.specs.declared.fault.SheetFault.TheVariants.{Places, Counts}
use Rattle.frames.specs.Frames.{Told, opening, row, close}
use Rattle.sheet.specs.Lines.{Lines, no_more, not_ended, ended, lines, after, counted, next_told}
use Rattle.sheet.specs.Reading.{Reading, counts_in_range, opening_of, row_of, close_of, end_of, unless_refused, from_rows, read_sheet, places_after, length_after}

abbrev reading : Result ℕ SheetFault → Option (List Task) → Reading
reading a rows = record { answer = a; rows = rows }

-- the answer and the list are those of the reading
pub record Outcome (bytes : List ℕ) (before : List Task) (old : ℕ) (r : Result ℕ SheetFault) (places : List Task) (len : ℕ) : Type 0 where
  pub answer : r ≡ (read_sheet bytes (length before)).answer
  pub list : places ≡ places_after (read_sheet bytes (length before)).rows before
  pub count : len ≡ length_after (read_sheet bytes (length before)).rows old

-- i rows are read into the places, and what is left reads on
pub record Sofar (bytes : List ℕ) (before : List Task) (m tasks i n : ℕ) (ls : Lines) (kept places : List Task) (len : ℕ) : Type 0 where
  pub reads : read_sheet bytes (length before) ≡ from_rows m (tasks - i) n ls kept
  pub count : len ≡ i
  pub long : length kept ≡ i
  pub room : tasks ≤ length before
  pub written : places ≡ kept ++ drop i before

-- a frame that is there is on a line of its own
opening_there : (p line n : ℕ) (ls : Lines) (x : ℕ × ℕ) → Ok x ≡ opening_of p line (next_told n ls) → counted n ls ≡ n + 1
opening_there p line n no_more x e = absurd (let z : ◌≡◌ {A = ℕ} 0 1 = cc in omega arith)
opening_there p line n not_ended x e = absurd (let z : ◌≡◌ {A = ℕ} 0 1 = cc in omega arith)
opening_there p line n (ended ds rest) x e = refl

row_there : (line n : ℕ) (rows : List Task) (ls : Lines) (t : Task) → Ok t ≡ row_of line rows (next_told n ls) → counted n ls ≡ n + 1
row_there line n rows no_more t e = absurd (let z : ◌≡◌ {A = ℕ} 0 1 = cc in omega arith)
row_there line n rows not_ended t e = absurd (let z : ◌≡◌ {A = ℕ} 0 1 = cc in omega arith)
row_there line n rows (ended ds rest) t e = refl

close_there : (line n : ℕ) (ls : Lines) (u : Unit {0}) → Ok u ≡ close_of line (next_told n ls) → counted n ls ≡ n + 1
close_there line n no_more u e = absurd (let z : ◌≡◌ {A = ℕ} 0 1 = cc in omega arith)
close_there line n not_ended u e = absurd (let z : ◌≡◌ {A = ℕ} 0 1 = cc in omega arith)
close_there line n (ended ds rest) u e = refl

-- an opening that is taken has places for its tasks
fits : (p line m tasks : ℕ) (x : ℕ × ℕ) (a b : Bool) → b ≡ ltb p tasks → Ok x ≡ cond a (cond b (Err (Places line)) (Ok (m, tasks))) (Err (Counts line)) → x.1 ≤ p
fits p line m tasks x true true t e = absurd (let z : ◌≡◌ {A = ℕ} 0 1 = cc in omega arith)
fits p line m tasks x true false t e = let s : x ≡ (m, tasks) = cc in omega (arith, ltb-false p tasks (sym t), ap (λ y. y.1) s)
fits p line m tasks x false b t e = absurd (let z : ◌≡◌ {A = ℕ} 0 1 = cc in omega arith)

pub room : (p line : ℕ) (told : Result (Option Told) FrameFault) (x : ℕ × ℕ) → Ok x ≡ opening_of p line told → x.1 ≤ p
room p line (Err f) x e = absurd (let z : ◌≡◌ {A = ℕ} 0 1 = cc in omega arith)
room p line (Ok None) x e = absurd (let z : ◌≡◌ {A = ℕ} 0 1 = cc in omega arith)
room p line (Ok (Some (opening m tasks))) x e = fits p line m tasks x (counts_in_range m tasks) (ltb p tasks) refl e
room p line (Ok (Some (row t))) x e = absurd (let z : ◌≡◌ {A = ℕ} 0 1 = cc in omega arith)
room p line (Ok (Some close)) x e = absurd (let z : ◌≡◌ {A = ℕ} 0 1 = cc in omega arith)

-- the opening as the reader meets it
pub opening_at : (p q n : ℕ) (ls ls' : Lines) (r : Result (ℕ × ℕ) SheetFault) → r ≡ opening_of p (n + 1) (next_told n ls) → p ≡ q → n ≡ 0 → ls ≡ ls' → r ≡ opening_of q 1 (next_told 0 ls')
opening_at p q n ls ls' r e pe ne le = e ∙ ap (λ x. opening_of x (n + 1) (next_told n ls)) pe ∙ ap (λ k. opening_of q (k + 1) (next_told k ls)) ne ∙ ap (λ l. opening_of q 1 (next_told 0 l)) le

-- a row as the reader meets it
pub row_at : (n : ℕ) (kept rows : List Task) (ls : Lines) (r : Result Task SheetFault) → r ≡ row_of (n + 1) rows (next_told n ls) → rows ≡ kept → r ≡ row_of (n + 1) kept (next_told n ls)
row_at n kept rows ls r e ke = e ∙ ap (λ x. row_of (n + 1) x (next_told n ls)) ke

-- what `?` returns
pub passed_on : {X : Type 0} (r : Result X SheetFault) (f : SheetFault) → IsErrAnd r (λ y. y ≡ f) → r ≡ Err f
passed_on r f e = let p = err_from_is_err_and r e in p.1 ∙ ap Err p.2

pub answered : (bytes : List ℕ) (before before' : List Task) (old : ℕ) (r r' : Result ℕ SheetFault) (places : List Task) (len : ℕ) → Outcome bytes before old r places len → r' ≡ r → before ≡ before' → Outcome bytes before' old r' places len
answered bytes before before' old r r' places len d re be =
    let at : Outcome bytes before old r' places len = record { answer = re ∙ d.answer; list = d.list; count = d.count } in
    subst (λ b. Outcome bytes b old r' places len) be at

-- a refused opening
pub opening_refused : (bytes : List ℕ) (before : List Task) (old : ℕ) (f : SheetFault) → Err f ≡ opening_of (length before) 1 (next_told 0 (lines bytes)) → Outcome bytes before old (Err f) before old
opening_refused bytes before old f e =
    let s : read_sheet bytes (length before) ≡ reading (Err f) None = ap (λ r. unless_refused r None (λ counts. from_rows counts.0 counts.1 1 (after (lines bytes)) [])) (sym e) in
    record {
      answer = sym (ap (λ x. x.answer) s);
      list = sym (ap (λ x. places_after x.rows before) s);
      count = sym (ap (λ x. length_after x.rows old) s);
    }

-- an opening that is taken
pub opened : (bytes : List ℕ) (before : List Task) (m tasks n : ℕ) (ls : Lines) (kept places : List Task) (len : ℕ) →
    Ok (m, tasks) ≡ opening_of (length before) 1 (next_told 0 (lines bytes)) → n ≡ counted 0 (lines bytes) → ls ≡ after (lines bytes) → len ≡ 0 → kept ≡ [] → places ≡ before →
    Sofar bytes before m tasks 0 n ls kept places len
opened bytes before m tasks n ls kept places len e ne le ze ke pe =
    let one : n ≡ 1 = ne ∙ opening_there (length before) 1 0 (lines bytes) (m, tasks) e in
    record {
      reads =
          ap (λ r. unless_refused r None (λ counts. from_rows counts.0 counts.1 1 (after (lines bytes)) [])) (sym e)
          ∙ rw (one, le, ke) (ap (λ k. from_rows m k 1 (after (lines bytes)) []) (omega arith));
      count = ze;
      long = ap length ke;
      room = room (length before) 1 (next_told 0 (lines bytes)) (m, tasks) e;
      written = rw ke pe;
    }

row_step : (m k n : ℕ) (ls : Lines) (rows : List Task) → 0 < k → from_rows m k n ls rows ≡ unless_refused (row_of (n + 1) rows (next_told n ls)) (Some rows) (λ t. from_rows m (k - 1) (n + 1) (after ls) (rows ++ t ∷ []))
row_step m zero n ls rows l = absurd (omega arith)
row_step m (suc k) n ls rows l = ap (λ j. unless_refused (row_of (n + 1) rows (next_told n ls)) (Some rows) (λ t. from_rows m j (n + 1) (after ls) (rows ++ t ∷ []))) (omega arith)

-- a row is written after those before it
pushed : (kept before : List Task) (i : ℕ) (t : Task) → length kept ≡ i → i < length before → set (kept ++ drop i before) i t ≡ (kept ++ t ∷ []) ++ drop (i + 1) before
pushed kept before i t e l =
    ap (λ d. set (kept ++ d) i t) (drop_more before i t l)
    ∙ set_at kept (get_or before i t) (drop (i + 1) before) t i e
    ∙ sym (append_assoc kept (t ∷ []) (drop (i + 1) before))

module _ {bytes : List ℕ} {before : List Task} {m tasks i n : ℕ} {ls : Lines} {kept places : List Task} {len : ℕ} (so : Sofar bytes before m tasks i n ls kept places len) where
  deliver : (old : ℕ) (r : Result ℕ SheetFault) → from_rows m (tasks - i) n ls kept ≡ reading r (Some kept) → Outcome bytes before old r places len
  deliver old r e =
      let s : read_sheet bytes (length before) ≡ reading r (Some kept) = so.reads ∙ e in
      record {
        answer = sym (ap (λ x. x.answer) s);
        list = so.written ∙ ap (λ k. kept ++ drop k before) (sym so.long) ∙ sym (ap (λ x. places_after x.rows before) s);
        count = so.count ∙ sym so.long ∙ sym (ap (λ x. length_after x.rows old) s);
      }

  pub row_refused : (old : ℕ) (f : SheetFault) → i < tasks → Err f ≡ row_of (n + 1) kept (next_told n ls) → Outcome bytes before old (Err f) places len
  row_refused old f l e =
      deliver old (Err f) (row_step m (tasks - i) n ls kept (omega arith) ∙ ap (λ r. unless_refused r (Some kept) (λ t. from_rows m (tasks - i - 1) (n + 1) (after ls) (kept ++ t ∷ []))) (sym e))

  pub one_more : (t : Task) (n' : ℕ) (ls' : Lines) (kept' places' : List Task) (len' : ℕ) → i < tasks → Ok t ≡ row_of (n + 1) kept (next_told n ls) → n' ≡ counted n ls → ls' ≡ after ls →
      len' ≡ len + 1 → places' ≡ set places len t → kept' ≡ take len' places' → Sofar bytes before m tasks (i + 1) n' ls' kept' places' len'
  one_more t n' ls' kept' places' len' l e ne le ze pe ke =
      let next : n' ≡ n + 1 = ne ∙ row_there (n + 1) n kept ls t e in
      let inside : i < length before = omega (arith, so.room) in
      let put : places' ≡ (kept ++ t ∷ []) ++ drop (i + 1) before = pe ∙ ap (λ k. set places k t) so.count ∙ ap (λ p. set p i t) so.written ∙ pushed kept before i t so.long inside in
      let longer : length (kept ++ t ∷ []) ≡ i + 1 = length_push kept t ∙ ap (λ k. k + 1) so.long in
      let more : kept' ≡ kept ++ t ∷ [] = ke ∙ ap (λ p. take len' p) put ∙ take_at (kept ++ t ∷ []) (drop (i + 1) before) len' (longer ∙ sym (ze ∙ ap (λ k. k + 1) so.count)) in
      record {
        reads =
            so.reads ∙ row_step m (tasks - i) n ls kept (omega arith)
            ∙ ap (λ r. unless_refused r (Some kept) (λ t. from_rows m (tasks - i - 1) (n + 1) (after ls) (kept ++ t ∷ []))) (sym e)
            ∙ rw (next, le, more) (ap (λ k. from_rows m k (n + 1) (after ls) (kept ++ t ∷ [])) (omega arith));
        count = ze ∙ ap (λ k. k + 1) so.count;
        long = ap length more ∙ longer;
        room = so.room;
        written = rw more put;
      }

  last_step : tasks ≤ i → from_rows m (tasks - i) n ls kept ≡ from_rows m 0 n ls kept
  last_step l = let none : tasks - i ≡ 0 = omega arith in ap (λ k. from_rows m k n ls kept) none

  pub close_refused : (old : ℕ) (f : SheetFault) → tasks ≤ i → Err f ≡ close_of (n + 1) (next_told n ls) → Outcome bytes before old (Err f) places len
  close_refused old f l e =
      deliver old (Err f) (last_step l ∙ ap (λ r. unless_refused r (Some kept) (λ _. unless_refused (end_of (n + 2) (next_told (n + 1) (after ls))) (Some kept) (λ _. reading (Ok m) (Some kept)))) (sym e))

  module _ (u : Unit {0}) (closed : Ok u ≡ close_of (n + 1) (next_told n ls)) (n' : ℕ) (ls' : Lines) (ne : n' ≡ counted n ls) (le : ls' ≡ after ls) (l : tasks ≤ i) where
    to_end : from_rows m (tasks - i) n ls kept ≡ unless_refused (end_of (n' + 1) (next_told n' ls')) (Some kept) (λ _. reading (Ok m) (Some kept))
    to_end =
        let next : n' ≡ n + 1 = ne ∙ close_there (n + 1) n ls u closed in
        let two : n + 2 ≡ n + 1 + 1 = omega arith in
        last_step l
        ∙ ap (λ r. unless_refused r (Some kept) (λ _. unless_refused (end_of (n + 2) (next_told (n + 1) (after ls))) (Some kept) (λ _. reading (Ok m) (Some kept)))) (sym closed)
        ∙ rw (next, le, two)

    pub end_refused : (old : ℕ) (f : SheetFault) → Err f ≡ end_of (n' + 1) (next_told n' ls') → Outcome bytes before old (Err f) places len
    end_refused old f e = deliver old (Err f) (to_end ∙ ap (λ r. unless_refused r (Some kept) (λ _. reading (Ok m) (Some kept))) (sym e))

    pub finished : (old : ℕ) (v : Unit {0}) → Ok v ≡ end_of (n' + 1) (next_told n' ls') → Outcome bytes before old (Ok m) places len
    finished old v e = deliver old (Ok m) (to_end ∙ ap (λ r. unless_refused r (Some kept) (λ _. reading (Ok m) (Some kept))) (sym e))
