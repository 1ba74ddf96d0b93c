-- The events of a tick, one controller after another.
use Rattle.std.proofs.Common.{◌≡◌, ℕ, zero, suc, ◌+◌, ◌<◌, ◌≤◌, Bool, true, false, cond, ◌&&◌, eqb, List, [], ◌∷◌, ◌++◌, length, Some, None, Option, sym, refl, ap, ◌∙◌, subst, ⊎_elim, arith}
use Rattle.std.proofs.lemmas.Bool.{eq-eqb, ne_eqb, cases_eq, cases_lt, cond-true, cond-false, and_left, and_right, and_from}
use Rattle.planner.specs.declared.row.Row.{Row as PlanRow}
use Rattle.machine.specs.declared.event.Event.{Event}
use Rattle.machine.specs.declared.event.Event.TheVariants.{Switch, Cut, Start}
use Rattle.machine.specs.Below.{each_below}
use Rattle.machine.specs.Laws.{place_of}
use Rattle.machine.specs.Entries.{Job}
use Rattle.machine.specs.Machine.{most, switch_event, cut_event, start_event}
use Rattle.machine.specs.History.{Told, tell_events, times}
use Rattle.machine.proofs.Basics.{put_same, put_other, tell_append, times_append}
use Rattle.machine.proofs.Books.{Placed, one_place, Valids, valids_append}

-- The events of one controller n leave x running there, and change nothing else.
record One (m : ℕ) (rows : List PlanRow) (h : Told) (es : List Event) (n : ℕ) (x : Option Job) : Type 0 where
  valid : Valids m rows h es
  here : (tell_events h es).running n ≡ x
  there : (c : ℕ) → (c ≡ n → ⊥) → (tell_events h es).running c ≡ h.running c
  starts_here : (r : ℕ) → (tell_events h es).starts r ≤ h.starts r + 1
  starts_there : (c r : ℕ) → (c ≡ n → ⊥) → Placed rows c r → (tell_events h es).starts r ≡ h.starts r
  ticks : (tell_events h es).ticks ≡ h.ticks
  mode : (tell_events h es).mode ≡ h.mode
  opening : (tell_events h es).opening ≡ h.opening

-- The events of the first n controllers leave `new c` running on each c of them, and change nothing else.
pub record Many (m : ℕ) (rows : List PlanRow) (h : Told) (es : List Event) (n : ℕ) (new : ℕ → Option Job) : Type 0 where
  pub valid : Valids m rows h es
  pub below : (c : ℕ) → c < n → (tell_events h es).running c ≡ new c
  pub above : (c : ℕ) → n ≤ c → (tell_events h es).running c ≡ h.running c
  pub starts_below : (c r : ℕ) → c < n → Placed rows c r → (tell_events h es).starts r ≤ h.starts r + 1
  pub starts_above : (c r : ℕ) → n ≤ c → Placed rows c r → (tell_events h es).starts r ≡ h.starts r
  pub ticks : (tell_events h es).ticks ≡ h.ticks
  pub mode : (tell_events h es).mode ≡ h.mode
  pub opening : (tell_events h es).opening ≡ h.opening

-- What runs after a start, if there is one.
abbrev pub started : Option ℕ → ℕ → Option Job → Option Job
started None t w = w
started (Some r) t w = Some (record { row = r; since = t })

module _ {m : ℕ} {rows : List PlanRow} where
  -- No controllers, and one more of them.
  many_none : (h : Told) (new : ℕ → Option Job) → Many m rows h [] zero new
  many_none h new = record {
    valid = tt;
    below = λ c l. absurd (omega arith);
    above = λ c l. refl;
    starts_below = λ c r l p. absurd (omega arith);
    starts_above = λ c r l p. refl;
    ticks = refl;
    mode = refl;
    opening = refl;
  }

  many_more
      : (h : Told) (xs ys : List Event) (n : ℕ) (new : ℕ → Option Job) → Many m rows h xs n new
      → One m rows (tell_events h xs) ys n (new n) → Many m rows h (xs ++ ys) (suc n) new
  many_more h xs ys n new a o = record {
    valid = valids_append m rows h xs ys a.valid o.valid;
    below = λ c l.
        ap (λ (g : Told). g.running c) e
        ∙ ⊎_elim
        (λ (k : c ≡ n). rw k o.here)
        (λ (k : c ≡ n → ⊥). o.there c k ∙ a.below c (omega arith))
        (cases_eq c n);
    above = λ c l. ap (λ (g : Told). g.running c) e ∙ o.there c (λ k. omega arith) ∙ a.above c (omega arith);
    starts_below = λ c r l p. ⊎_elim
        (λ (k : c ≡ n). omega (arith, ap (λ (g : Told). g.starts r) e, o.starts_here r, a.starts_above c r (omega arith) p))
        (λ (k : c ≡ n → ⊥).
        omega (arith, ap (λ (g : Told). g.starts r) e, o.starts_there c r k p, a.starts_below c r (omega arith) p))
        (cases_eq c n);
    starts_above = λ c r l p.
        ap (λ (g : Told). g.starts r) e ∙ o.starts_there c r (λ k. omega arith) p ∙ a.starts_above c r (omega arith) p;
    ticks = ap (λ (g : Told). g.ticks) e ∙ o.ticks ∙ a.ticks;
    mode = ap (λ (g : Told). g.mode) e ∙ o.mode ∙ a.mode;
    opening = ap (λ (g : Told). g.opening) e ∙ o.opening ∙ a.opening;
  }
    where
      e : tell_events h (xs ++ ys) ≡ tell_events (tell_events h xs) ys
      e = tell_append h xs ys

  -- No event, a cut, a start.
  one_nothing : (h : Told) (n : ℕ) (x : Option Job) → h.running n ≡ x → One m rows h [] n x
  one_nothing h n x e = record {
    valid = tt;
    here = e;
    there = λ c k. refl;
    starts_here = λ r. omega arith;
    starts_there = λ c r k p. refl;
    ticks = refl;
    mode = refl;
    opening = refl;
  }

  one_cut
      : (h : Told) (n : ℕ) → n < m → (k : Bool) (j : Option Job) → h.running n ≡ j
      → One m rows h (cut_event n k j) n (cond k None j)
  one_cut h n l true None e = one_nothing h n None e
  one_cut h n l false None e = one_nothing h n None e
  one_cut h n l false (Some j) e = one_nothing h n (Some j) e
  one_cut h n l true (Some j) e = record {
    valid = ((l, (j, e, refl)), tt);
    here = put_same n None h.running n refl;
    there = λ c k. put_other n None h.running c k;
    starts_here = λ r. omega arith;
    starts_there = λ c r k p. refl;
    ticks = refl;
    mode = refl;
    opening = refl;
  }

  one_start
      : (h : Told) (n t : ℕ) (w : Option Job) → n < m → h.ticks ≡ t → h.running n ≡ w
      → (d : Option ℕ) → ((r : ℕ) → d ≡ Some r → (w ≡ None) × Placed rows n r × (h.starts r < most))
      → One m rows h (start_event n d) n (started d t w)
  one_start h n t w l e is None f = one_nothing h n w is
  one_start h n t w l e is (Some r) f = record {
    valid = ((l, is ∙ (f r refl).0, (f r refl).1, (f r refl).2), tt);
    here =
        put_same n (Some (record { row = r; since = h.ticks })) h.running n refl
        ∙ ap (λ (x : ℕ). Some (record { row = r; since = x })) e;
    there = λ c k. put_other n (Some (record { row = r; since = h.ticks })) h.running c k;
    starts_here = λ q. ⊎_elim
        (λ (k : q ≡ r). omega (arith, put_same r (h.starts r + 1) h.starts q k, ap h.starts k))
        (λ (k : q ≡ r → ⊥). omega (arith, put_other r (h.starts r + 1) h.starts q k))
        (cases_eq q r);
    starts_there = λ c q k p.
        put_other r (h.starts r + 1) h.starts q (λ z. k (one_place p (subst (Placed rows n) (sym z) (f r refl).1)));
    ticks = refl;
    mode = refl;
    opening = refl;
  }

  -- What the cuts on the first n controllers leave.
  pub many_cuts
      : (h : Told) (K : ℕ → Bool) (J : ℕ → Option Job) → ((c : ℕ) → h.running c ≡ J c)
      → (n : ℕ) → n ≤ m → Many m rows h (each_below n (λ c. cut_event c (K c) (J c))) n (λ c. cond (K c) None (J c))
  many_cuts h K J is zero l = many_none h (λ c. cond (K c) None (J c))
  many_cuts h K J is (suc n) l =
      let a = many_cuts h K J is n (omega arith) in
      many_more h (each_below n (λ c. cut_event c (K c) (J c))) (cut_event n (K n) (J n)) n (λ c. cond (K c) None (J c)) a
      (one_cut (tell_events h (each_below n (λ c. cut_event c (K c) (J c)))) n (omega arith) (K n) (J n)
      (a.above n (omega arith) ∙ is n))

  -- What the starts on the first n controllers leave.
  pub many_starts
      : (h : Told) (D : ℕ → Option ℕ) (J : ℕ → Option Job) → ((c : ℕ) → c < m → h.running c ≡ J c)
      → ((c r : ℕ) → D c ≡ Some r → (J c ≡ None) × Placed rows c r × (h.starts r < most))
      → (n : ℕ) → n ≤ m → Many m rows h (each_below n (λ c. start_event c (D c))) n (λ c. started (D c) h.ticks (J c))
  many_starts h D J is f zero l = many_none h (λ c. started (D c) h.ticks (J c))
  many_starts h D J is f (suc n) l =
      let a = many_starts h D J is f n (omega arith) in
      many_more h (each_below n (λ c. start_event c (D c))) (start_event n (D n)) n (λ c. started (D c) h.ticks (J c)) a
      (one_start (tell_events h (each_below n (λ c. start_event c (D c)))) n h.ticks (J n) (omega arith) a.ticks
      (a.above n (omega arith) ∙ is n (omega arith)) (D n)
      (λ r e. let (idle, p, low) = f n r e in (idle, p, omega (arith, a.starts_above n r (omega arith) p))))

-- The switch changes the mode and its opening, and nothing else.
pub record Switched (h : Told) (es : List Event) (x : Bool) : Type 0 where
  pub valid : (m : ℕ) (rows : List PlanRow) → Valids m rows h es
  pub running : (c : ℕ) → (tell_events h es).running c ≡ h.running c
  pub starts : (r : ℕ) → (tell_events h es).starts r ≡ h.starts r
  pub ticks : (tell_events h es).ticks ≡ h.ticks
  pub mode : (tell_events h es).mode ≡ cond x 1 h.mode
  pub opening : (tell_events h es).opening ≡ cond x h.ticks h.opening

pub switched : (h : Told) (x : Bool) → Switched h (switch_event x) x
switched h true =
    record {
      valid = λ m rows. (tt, tt);
      running = λ c. refl;
      starts = λ r. refl;
      ticks = refl;
      mode = refl;
      opening = refl;
    }
switched h false =
    record { valid = λ m rows. tt; running = λ c. refl; starts = λ r. refl; ticks = refl; mode = refl; opening = refl }

-- ---- how many times an event is written

-- An event that no controller has is not written.
pub times_none
    : (e : Event) (f : ℕ → List Event) → ((i : ℕ) → times e (f i) ≡ 0) → (n : ℕ) → times e (each_below n f) ≡ 0
times_none e f z zero = refl
times_none e f z (suc n) = times_append e (each_below n f) (f n) ∙ omega (arith, times_none e f z n, z n)

-- An event that only the controller c can have.
module _ (e : Event) (f : ℕ → List Event) (c : ℕ) (z : (i : ℕ) → (c ≡ i → ⊥) → times e (f i) ≡ 0) where
  times_past : (n : ℕ) → n ≤ c → times e (each_below n f) ≡ 0
  times_past zero l = refl
  times_past (suc n) l =
      times_append e (each_below n f) (f n) ∙ omega (arith, times_past n (omega arith), z n (λ k. omega arith))

  -- It is written as often as that controller has it.
  pub times_at : (n : ℕ) → c < n → times e (each_below n f) ≡ times e (f c)
  times_at zero l = absurd (omega arith)
  times_at (suc n) l =
      times_append e (each_below n f) (f n)
      ∙ ⊎_elim
      (λ (k : c ≡ n). omega (arith, times_past n (omega arith), ap (λ (i : ℕ). times e (f i)) k))
      (λ (k : c ≡ n → ⊥). omega (arith, times_at n (omega arith), z n k))
      (cases_eq c n)

  -- It is written at most once where that controller has it at most once.
  pub times_most : times e (f c) ≤ 1 → (n : ℕ) → times e (each_below n f) ≤ 1
  times_most h n =
      ⊎_elim (λ (l : c < n). omega (arith, times_at n l)) (λ (l : n ≤ c). omega (arith, times_past n l)) (cases_lt c n)

  -- Where it is written, that controller has it.
  pub times_some : (n : ℕ) → 1 ≤ times e (each_below n f) → (c < n) × (1 ≤ times e (f c))
  times_some n h =
      ⊎_elim {C = (c < n) × (1 ≤ times e (f c))}
      (λ (l : c < n). (l, omega (arith, times_at n l)))
      (λ (l : n ≤ c). absurd (omega (arith, times_past n l)))
      (cases_lt c n)

-- 1 where both numbers agree, 0 where one does not.
pair_same : (c r d q : ℕ) → c ≡ d → r ≡ q → cond {A = ℕ} (eqb c d && eqb r q) 1 0 ≡ 1
pair_same c r d q e k =
    cond-true {A = ℕ} (eqb c d && eqb r q) 1 0 (and_from (eqb c d) (eqb r q) (eq-eqb c d e) (eq-eqb r q k))

pair_left : (c r d q : ℕ) → (c ≡ d → ⊥) → cond {A = ℕ} (eqb c d && eqb r q) 1 0 ≡ 0
pair_left c r d q n = cond-false {A = ℕ} (eqb c d && eqb r q) 1 0 (and_left (eqb c d) (eqb r q) (ne_eqb c d n))

pair_right : (c r d q : ℕ) → (r ≡ q → ⊥) → cond {A = ℕ} (eqb c d && eqb r q) 1 0 ≡ 0
pair_right c r d q n = cond-false {A = ℕ} (eqb c d && eqb r q) 1 0 (and_right (eqb c d) (eqb r q) (ne_eqb r q n))

-- How often each event is in the switch, in a cut, in a start.
pub switch_switch : (x : Bool) → times Switch (switch_event x) ≡ cond x 1 0
switch_switch true = omega arith
switch_switch false = refl

pub switch_cut : (c : ℕ) (k : Bool) (j : Option Job) → times Switch (cut_event c k j) ≡ 0
switch_cut c true None = refl
switch_cut c false None = refl
switch_cut c false (Some j) = refl
switch_cut c true (Some j) = omega arith

pub switch_start : (c : ℕ) (d : Option ℕ) → times Switch (start_event c d) ≡ 0
switch_start c None = refl
switch_start c (Some q) = omega arith

pub cut_switch : (c r : ℕ) (x : Bool) → times (Cut c r) (switch_event x) ≡ 0
cut_switch c r true = omega arith
cut_switch c r false = refl

pub cut_start : (c r i : ℕ) (d : Option ℕ) → times (Cut c r) (start_event i d) ≡ 0
cut_start c r i None = refl
cut_start c r i (Some q) = omega arith

pub cut_elsewhere : (c r i : ℕ) → (c ≡ i → ⊥) → (k : Bool) (j : Option Job) → times (Cut c r) (cut_event i k j) ≡ 0
cut_elsewhere c r i n true None = refl
cut_elsewhere c r i n false None = refl
cut_elsewhere c r i n false (Some j) = refl
cut_elsewhere c r i n true (Some j) = omega (arith, pair_left c r i j.row n)

pub cut_here : (c : ℕ) (k : Bool) (j : Job) → times (Cut c j.row) (cut_event c k (Some j)) ≡ cond k 1 0
cut_here c false j = refl
cut_here c true j = omega (arith, pair_same c j.row c j.row refl refl)

pub cut_most : (c r : ℕ) (k : Bool) (j : Option Job) → times (Cut c r) (cut_event c k j) ≤ 1
cut_most c r true None = omega arith
cut_most c r false None = omega arith
cut_most c r false (Some j) = omega arith
cut_most c r true (Some j) =
    ⊎_elim
    (λ (e : r ≡ j.row). omega (arith, pair_same c r c j.row refl e))
    (λ (n : r ≡ j.row → ⊥). omega (arith, pair_right c r c j.row n))
    (cases_eq r j.row)

pub cut_some
    : (c r : ℕ) (k : Bool) (o : Option Job) → 1 ≤ times (Cut c r) (cut_event c k o) → (j : Job) × (o ≡ Some j) × (j.row ≡ r)
cut_some c r true None l = absurd (omega arith)
cut_some c r false None l = absurd (omega arith)
cut_some c r false (Some j) l = absurd (omega arith)
cut_some c r true (Some j) l = (
  j,
  refl,
  ⊎_elim
      (λ (e : r ≡ j.row). sym e)
      (λ (n : r ≡ j.row → ⊥). absurd (omega (arith, pair_right c r c j.row n)))
      (cases_eq r j.row),
)

pub start_switch : (c r : ℕ) (x : Bool) → times (Start c r) (switch_event x) ≡ 0
start_switch c r true = omega arith
start_switch c r false = refl

pub start_cut : (c r i : ℕ) (k : Bool) (j : Option Job) → times (Start c r) (cut_event i k j) ≡ 0
start_cut c r i true None = refl
start_cut c r i false None = refl
start_cut c r i false (Some j) = refl
start_cut c r i true (Some j) = omega arith

pub start_elsewhere : (c r i : ℕ) → (c ≡ i → ⊥) → (d : Option ℕ) → times (Start c r) (start_event i d) ≡ 0
start_elsewhere c r i n None = refl
start_elsewhere c r i n (Some q) = omega (arith, pair_left c r i q n)

pub start_here : (c r : ℕ) (d : Option ℕ) → d ≡ Some r → times (Start c r) (start_event c d) ≡ 1
start_here c r d e =
    ap (λ (o : Option ℕ). times (Start c r) (start_event c o)) e ∙ omega (arith, pair_same c r c r refl refl)

pub start_most : (c r : ℕ) (d : Option ℕ) → times (Start c r) (start_event c d) ≤ 1
start_most c r None = omega arith
start_most c r (Some q) =
    ⊎_elim
    (λ (e : r ≡ q). omega (arith, pair_same c r c q refl e))
    (λ (n : r ≡ q → ⊥). omega (arith, pair_right c r c q n))
    (cases_eq r q)

pub start_some : (c r : ℕ) (d : Option ℕ) → 1 ≤ times (Start c r) (start_event c d) → d ≡ Some r
start_some c r None l = absurd (omega arith)
start_some c r (Some q) l =
    ⊎_elim
    (λ (e : r ≡ q). ap Some (sym e))
    (λ (n : r ≡ q → ⊥). absurd (omega (arith, pair_right c r c q n)))
    (cases_eq r q)

-- ---- in what order events are written

-- The places of the events rise, from lo on, and stay below hi.
abbrev pub Span : ℕ → ℕ → ℕ → List Event → Type 0
Span m lo hi [] = lo ≤ hi
Span m lo hi (e ∷ es) = (lo ≤ place_of m e) × Span m (suc (place_of m e)) hi es

span_weaken : (m lo mid hi : ℕ) (es : List Event) → lo ≤ mid → Span m mid hi es → Span m lo hi es
span_weaken m lo mid hi [] l h = omega arith
span_weaken m lo mid hi (e ∷ es) l (h, hs) = (omega arith, hs)

-- Two such lists, one after the other, and one for each controller.
pub span_append
    : (m lo mid hi : ℕ) (xs ys : List Event) → Span m lo mid xs → Span m mid hi ys → Span m lo hi (xs ++ ys)
span_append m lo mid hi [] ys h k = span_weaken m lo mid hi ys h k
span_append m lo mid hi (x ∷ xs) ys (h, hs) k = (h, span_append m (suc (place_of m x)) mid hi xs ys hs k)

pub span_each
    : (m base : ℕ) (f : ℕ → List Event) → ((i : ℕ) → Span m (base + i) (base + suc i) (f i)) → (n : ℕ)
    → Span m base (base + n) (each_below n f)
span_each m base f h zero = omega arith
span_each m base f h (suc n) =
    span_append m base (base + n) (base + suc n) (each_below n f) (f n) (span_each m base f h n) (h n)

-- The switch, a cut, a start.
pub span_switch : (m : ℕ) (x : Bool) → Span m 0 1 (switch_event x)
span_switch m true = (omega arith, omega arith)
span_switch m false = omega arith

pub span_cut : (m i : ℕ) (k : Bool) (j : Option Job) → Span m (1 + i) (1 + suc i) (cut_event i k j)
span_cut m i true None = omega arith
span_cut m i false None = omega arith
span_cut m i false (Some j) = omega arith
span_cut m i true (Some j) = (omega arith, omega arith)

pub span_start : (m i : ℕ) (d : Option ℕ) → Span m (1 + m + i) (1 + m + suc i) (start_event i d)
span_start m i None = omega arith
span_start m i (Some r) = (omega arith, omega arith)

-- Such events are few.
pub span_length : (m lo hi : ℕ) (es : List Event) → Span m lo hi es → lo + length es ≤ hi
span_length m lo hi [] h = omega arith
span_length m lo hi (e ∷ es) (h, hs) = omega (arith, span_length m (suc (place_of m e)) hi es hs)

-- Of two such events in a row the later has the higher place.
pub span_two
    : (m lo hi : ℕ) (first rest : List Event) (x y : Event) → Span m lo hi (first ++ (x ∷ (y ∷ rest)))
    → place_of m x < place_of m y
span_two m lo hi [] rest x y (h, (k, hs)) = k
span_two m lo hi (z ∷ first) rest x y (h, hs) = span_two m (suc (place_of m z)) hi first rest x y hs
