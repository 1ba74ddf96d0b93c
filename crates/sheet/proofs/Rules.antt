-- The rules that the reader checks row by row are those of a whole sheet.
use Rattle.std.proofs.Common.{◌≡◌, ℕ, ◌/◌, ◌%◌, ◌<◌, ◌≤◌, Bool, true, false, ◌||◌, eqb, ltb, List, [], ◌∷◌, ◌++◌, sym, refl, subst, ⊎_elim, mod-lt, div-lt_iff_lt-mul, arith, lit<}
use Rattle.std.specs.List.{AllByRecursion}
use Rattle.std.proofs.lemmas.List.{append-nil, append_assoc}
use Rattle.std.proofs.ByRecursion.{All-push}
use Rattle.std.proofs.lemmas.Bool.{ltb-false, le-ltb, eqb-false, ne_eqb, cases_lt}
use Rattle.tasks.specs.declared.task.Task.{Task}
use Rattle.tasks.specs.Tasks.{in_range, InRange, budget}
use Rattle.tasks.proofs.Ranges.{in_range_holds, passes}
use Rattle.frames.specs.Frames.{row}
use Rattle.sheet.specs.Reading.{used, last_period}
use Rattle.sheet.specs.Text.{EachToLater, Apart, Rising, RowsValid}
use Rattle.frames.specs.Texts.{Fits}

-- a task that the reader takes after some rows
abbrev pub Follows : List Task → Task → Type 0
Follows done t = (in_range t ≡ true) × (used t.id done ≡ false) × (ltb t.period (last_period done) ≡ false)

-- tasks that the reader takes one after the other
abbrev pub Accepted : List Task → List Task → Type 0
Accepted done [] = Unit {0}
Accepted done (t ∷ todo) = Follows done t × Fits (row t) × Accepted (done ++ t ∷ []) todo

small_word : (w : ℕ) → w ≤ 60000 → w / 256 < 256
small_word w l = (div-lt_iff_lt-mul (lit< tt)).1 (omega arith)

low : (w : ℕ) → w % 256 < 256
low w = mod-lt w (lit< tt)

-- a task in range has fields of one and two bytes
range_fits : (t : Task) → t.id ≤ 255 → InRange t → Fits (row t)
range_fits t id r =
    let d : t.deadline ≤ 60000 = omega (arith, r.period, r.deadline) in
    let e : budget t 0 ≤ 60000 = omega (arith, r.within 0 (omega arith)) in
    let c : budget t 1 ≤ 60000 = ⊎_elim (λ none. omega (arith, r.blank 1 none)) (λ one. omega (arith, r.within 1 one)) (cases_lt t.level 1) in
    (lit< tt, (omega arith, (omega (arith, r.level), (small_word t.period r.period.1, (low t.period, (small_word t.deadline d, (low t.deadline, (small_word (budget t 0) e, (low (budget t 0), (small_word (budget t 1) c, (low (budget t 1), tt)))))))))))

all_mid : (P : Task → Type 0) (xs : List Task) (y : Task) (ys : List Task) → AllByRecursion P (xs ++ y ∷ ys) → P y
all_mid P [] y ys h = h.0
all_mid P (x ∷ xs) y ys h = all_mid P xs y ys h.1

module _ (R : Task → Task → Type 0) where
  later_push : (xs : List Task) (y : Task) → EachToLater R xs → AllByRecursion (λ x. R x y) xs → EachToLater R (xs ++ y ∷ [])
  later_push [] y h a = (tt, tt)
  later_push (x ∷ xs) y h a = (All-push (R x) xs y h.0 a.0, later_push xs y h.1 a.1)

  later_mid : (xs : List Task) (y : Task) (ys : List Task) → EachToLater R (xs ++ y ∷ ys) → AllByRecursion (λ x. R x y) xs
  later_mid [] y ys h = tt
  later_mid (x ∷ xs) y ys h = (all_mid (R x) xs y ys h.0, later_mid xs y ys h.1)

-- an id is free exactly when no row has it
or_left : (a b : Bool) → (a || b) ≡ false → (a ≡ false) × (b ≡ false)
or_left true b e = (e, absurd (let z : ◌≡◌ {A = ℕ} 0 1 = cc in omega arith))
or_left false b e = (refl, e)

free_id : (id : ℕ) (rows : List Task) → used id rows ≡ false → AllByRecursion (λ r. r.id ≡ id → ⊥) rows
free_id id [] e = tt
free_id id (r ∷ rows) e = let p = or_left (eqb r.id id) (used id rows) e in (eqb-false r.id id p.0, free_id id rows p.1)

id_free : (id : ℕ) (rows : List Task) → AllByRecursion (λ r. r.id ≡ id → ⊥) rows → used id rows ≡ false
id_free id [] h = refl
id_free id (r ∷ rows) h = rw (ne_eqb r.id id h.0) (id_free id rows h.1)

-- the last period is the greatest
last_low : (p : ℕ) (rows : List Task) → AllByRecursion (λ r. r.period ≤ p) rows → last_period rows ≤ p
last_low p [] h = omega arith
last_low p (r ∷ []) h = h.0
last_low p (r ∷ s ∷ rows) h = last_low p (s ∷ rows) h.1

low_last : (p : ℕ) (rows : List Task) → EachToLater Rising rows → last_period rows ≤ p → AllByRecursion (λ r. r.period ≤ p) rows
low_last p [] h l = tt
low_last p (r ∷ []) h l = (l, tt)
low_last p (r ∷ s ∷ rows) h l = let rest = low_last p (s ∷ rows) h.1 l in (omega (arith, h.0.0, rest.0), rest)

-- tasks taken one after the other keep every rule together
pub accepted_valid : (done todo : List Task) → RowsValid done → Accepted done todo → RowsValid (done ++ todo)
accepted_valid done [] r h = subst RowsValid (sym (append-nil done)) r
accepted_valid done (t ∷ todo) r h =
    let f = h.0 in
    let more : RowsValid (done ++ t ∷ []) = record {
      ids = All-push (λ t. t.id ≤ 255) done t r.ids (omega (arith, h.1.1.0));
      numbers = All-push InRange done t r.numbers (in_range_holds t f.0);
      apart = later_push Apart done t r.apart (free_id t.id done f.1);
      rising = later_push Rising done t r.rising (low_last t.period done r.rising (ltb-false t.period (last_period done) f.2));
    } in
    subst RowsValid (append_assoc done (t ∷ []) todo) (accepted_valid (done ++ t ∷ []) todo more h.2)

-- and rows that keep every rule are taken one after the other
pub valid_accepted : (done todo : List Task) → RowsValid (done ++ todo) → Accepted done todo
valid_accepted done [] r = tt
valid_accepted done (t ∷ todo) r =
    let range = all_mid InRange done t todo r.numbers in (
      (passes t range, id_free t.id done (later_mid Apart done t todo r.apart), le-ltb t.period (last_period done) (last_low t.period done (later_mid Rising done t todo r.rising))),
      range_fits t (all_mid (λ t. t.id ≤ 255) done t todo r.ids) range,
      valid_accepted (done ++ t ∷ []) todo (subst RowsValid (sym (append_assoc done (t ∷ []) todo)) r),
    )
