-- The books: what the machine keeps agrees with what the history tells, at every moment, also between two events of a tick;
-- and the accounts balance.
use Rattle.std.proofs.Common.{◌≡◌, ℕ, zero, suc, ◌+◌, ◌<◌, ◌≤◌, cond, eqb, List, [], ◌∷◌, ◌++◌, length, get_or, set, replicate, Some, None, Option, sym, refl, ap, ◌∙◌, subst, ap₂, subst₂, ⊎_elim, arith}
use Rattle.std.proofs.lemmas.List.{length-set, get_or-set_same, get_or-set_other, length-replicate, get_or-replicate}
use Rattle.std.proofs.lemmas.Bool.{eq-eqb, ne_eqb, cases_eq, cond-true, cond-false}
use Rattle.std.specs.List.{slice_get}
use Rattle.planner.specs.declared.row.Row.{Row as PlanRow}
use Rattle.benches.specs.Commands.{States}
use Rattle.machine.specs.declared.entry.Counts.{Counts}
use Rattle.machine.specs.declared.event.Event.{Event}
use Rattle.machine.specs.declared.event.Event.TheVariants.{Switch, Cut, Start}
use Rattle.machine.specs.declared.entry.Call.TheVariants.{Report, Strike, Return}
use Rattle.machine.specs.Entries.{Job}
use Rattle.machine.specs.Machine.{
  State,
  job,
  job_of,
  none_yet,
  with_start,
  with_report,
  with_cut,
  count_at,
  count_for,
  most,
  act,
  acts,
  passed,
  ended,
  returned,
  loaded,
}
use Rattle.machine.specs.History.{Told, nothing, put, one_more, one_more_for, tell_event, tell_events, tell_tick, tell_done}
use Rattle.machine.specs.Laws.{row_of, counts_of}
use Rattle.machine.proofs.Basics.{none_some, some_same, put_same, put_other}

-- The row of this number is on this controller.
pub record Placed (rows : List PlanRow) (c r : ℕ) : Type 0 where
  pub row : PlanRow
  pub at : slice_get rows r ≡ Some row
  pub on : row.controller ≡ c

-- A row is on one controller.
pub one_place : {rows : List PlanRow} {c d r : ℕ} → Placed rows c r → Placed rows d r → c ≡ d
one_place p q = sym p.on ∙ ap (λ (x : PlanRow). x.controller) (some_same p.row q.row (sym p.at ∙ q.at)) ∙ q.on

-- A row that the plan has is numbered below their count.
pub row_below : (rows : List PlanRow) (r : ℕ) (row : PlanRow) → slice_get rows r ≡ Some row → r < length rows
row_below [] r row e = none_some row e
row_below (x ∷ rows) zero row e = omega arith
row_below (x ∷ rows) (suc r) row e = omega (arith, row_below rows r row e)

-- Below their count every number has a row.
pub row_there : (rows : List PlanRow) (r : ℕ) → r < length rows → (row : PlanRow) × (slice_get rows r ≡ Some row)
row_there [] r l = absurd (omega arith)
row_there (x ∷ rows) zero l = (x, refl)
row_there (x ∷ rows) (suc r) l = row_there rows r (omega arith)

-- 1 where the job is of this row, else 0.
abbrev pub of_row : ℕ → Option Job → ℕ
of_row r None = 0
of_row r (Some j) = cond (eqb j.row r) 1 0

-- A job of the row counts 1.
pub of_same : (r : ℕ) (j : Job) → j.row ≡ r → of_row r (Some j) ≡ 1
of_same r j e = cond-true (eqb j.row r) 1 0 (eq-eqb j.row r e)

-- A job of another row counts 0.
pub of_other : (r : ℕ) (j : Job) → (j.row ≡ r → ⊥) → of_row r (Some j) ≡ 0
of_other r j n = cond-false (eqb j.row r) 1 0 (ne_eqb j.row r n)

-- How many jobs of the row have ended.
abbrev pub ends : Told → ℕ → ℕ
ends h r = h.reports r + h.strikes r + h.cuts r

-- The state agrees with what is told, each running job is of a row on its controller, and every start of a row has ended but
-- the one whose job runs.
pub record Booked (m : ℕ) (rows : List PlanRow) (s : State) (h : Told) : Type 0 where
  pub controllers : s.controllers ≡ m
  pub rows_kept : s.rows ≡ rows
  pub shows : length s.shows ≡ m
  pub since : m ≤ length s.since
  pub counts : length rows ≤ length s.counts
  pub next : s.next ≡ h.ticks
  pub mode : s.mode ≡ h.mode
  pub opening : s.opening ≡ h.opening
  pub jobs : (c : ℕ) → job s c ≡ h.running c
  pub tallies : (r : ℕ) → r < length rows → get_or s.counts r none_yet ≡ counts_of h r
  pub own : (c : ℕ) (j : Job) → h.running c ≡ Some j → Placed rows c j.row
  pub account : (c r : ℕ) → Placed rows c r → h.starts r ≡ ends h r + of_row r (h.running c)
  pub few : (c r : ℕ) → Placed rows c r → h.starts r ≤ most

-- What is told where the event is to be written.
abbrev Valid : ℕ → List PlanRow → Told → Event → Type 0
Valid m rows h Switch = Unit {0}
Valid m rows h (Cut c r) = (c < m) × ((j : Job) × (h.running c ≡ Some j) × (j.row ≡ r))
Valid m rows h (Start c r) = (c < m) × (h.running c ≡ None) × Placed rows c r × (h.starts r < most)

-- So of each of these events, after those before it.
abbrev pub Valids : ℕ → List PlanRow → Told → List Event → Type 0
Valids m rows h [] = Unit {0}
Valids m rows h (e ∷ es) = Valid m rows h e × Valids m rows (tell_event h e) es

-- Two such lists of events, one after the other.
pub valids_append
    : (m : ℕ) (rows : List PlanRow) (h : Told) (xs ys : List Event) → Valids m rows h xs → Valids m rows (tell_events h xs) ys
    → Valids m rows h (xs ++ ys)
valids_append m rows h [] ys v w = w
valids_append m rows h (x ∷ xs) ys (v, vs) w = (v, valids_append m rows (tell_event h x) xs ys vs w)

-- Where a start is written, its controller is idle.
pub valid_start
    : (m : ℕ) (rows : List PlanRow) (h : Told) (first rest : List Event) (c r : ℕ) → Valids m rows h (first ++ (Start c r ∷ rest))
    → (tell_events h first).running c ≡ None
valid_start m rows h [] rest c r v = v.0.1
valid_start m rows h (x ∷ first) rest c r v = valid_start m rows (tell_event h x) first rest c r v.1

-- ---- one table changed at one place

-- Counts with the same parts are the same.
counts_same
    : {a b c d e f : ℕ} → a ≡ d → b ≡ e → c ≡ f
    → ◌≡◌ {A = Counts} (record { starts = a; reports = b; cuts = c }) (record { starts = d; reports = e; cuts = f })
counts_same p q r = λ i. record { starts = p i; reports = q i; cuts = r i }

-- The jobs where c is given one.
job_put
    : (shows : States) (since : List ℕ) (c : ℕ) (x : Option ℕ) (t : ℕ) → c < length shows → c < length since → (d : ℕ)
    → job_of (get_or (set shows c x) d None) (get_or (set since c t) d 0)
    ≡ put c (job_of x t) (λ d. job_of (get_or shows d None) (get_or since d 0)) d
job_put shows since c x t l k d = ⊎_elim same other (cases_eq d c)
  where
    run : ℕ → Option Job
    run e = job_of (get_or shows e None) (get_or since e 0)

    same : d ≡ c → job_of (get_or (set shows c x) d None) (get_or (set since c t) d 0) ≡ put c (job_of x t) run d
    same e =
        rw e (ap₂ job_of (get_or-set_same shows c x None l) (get_or-set_same since c t 0 k) ∙ sym (put_same c (job_of x t) run c refl))

    other : (d ≡ c → ⊥) → job_of (get_or (set shows c x) d None) (get_or (set since c t) d 0) ≡ put c (job_of x t) run d
    other n =
        ap₂ job_of (get_or-set_other shows c d x None n) (get_or-set_other since c d t 0 n) ∙ sym (put_other c (job_of x t) run d n)

-- The jobs where that on c has ended.
job_drop
    : (shows : States) (since : List ℕ) (c : ℕ) → c < length shows → (d : ℕ)
    → job_of (get_or (set shows c None) d None) (get_or since d 0) ≡ put c None (λ d. job_of (get_or shows d None) (get_or since d 0)) d
job_drop shows since c l d = ⊎_elim same other (cases_eq d c)
  where
    run : ℕ → Option Job
    run e = job_of (get_or shows e None) (get_or since e 0)

    same : d ≡ c → job_of (get_or (set shows c None) d None) (get_or since d 0) ≡ put c None run d
    same e =
        rw e (ap (λ (o : Option ℕ). job_of o (get_or since c 0)) (get_or-set_same shows c None None l)
        ∙ sym (put_same c None run c refl))

    other : (d ≡ c → ⊥) → job_of (get_or (set shows c None) d None) (get_or since d 0) ≡ put c None run d
    other n =
        ap (λ (o : Option ℕ). job_of o (get_or since d 0)) (get_or-set_other shows c d None None n) ∙ sym (put_other c None run d n)

-- The same change made to two functions that are the same everywhere.
put_along : {X : Type 0} (c : ℕ) (x : X) (f g : ℕ → X) → ((d : ℕ) → f d ≡ g d) → (d : ℕ) → put c x f d ≡ put c x g d
put_along c x f g e d = ap (λ y. cond (eqb d c) x y) (e d)

-- The counts of the row r changed, told by g where they were told by f.
tally_put
    : (counts : List Counts) (r : ℕ) (more : Counts → Counts) (n : ℕ) (f g : ℕ → Counts) → n ≤ length counts → r < n
    → ((q : ℕ) → q < n → get_or counts q none_yet ≡ f q) → g r ≡ more (f r) → ((q : ℕ) → (q ≡ r → ⊥) → g q ≡ f q)
    → (q : ℕ) → q < n → get_or (count_at counts r more) q none_yet ≡ g q
tally_put counts r more n f g len l old here there q k = ⊎_elim same other (cases_eq q r)
  where
    same : q ≡ r → get_or (count_at counts r more) q none_yet ≡ g q
    same e =
        rw e (get_or-set_same counts r (more (get_or counts r none_yet)) none_yet (omega arith) ∙ ap more (old r l) ∙ sym here)

    other : (q ≡ r → ⊥) → get_or (count_at counts r more) q none_yet ≡ g q
    other n = get_or-set_other counts r q (more (get_or counts r none_yet)) none_yet n ∙ old q k ∙ sym (there q n)

-- ---- the accounts, where a job ends and where one starts

module _ (rows : List PlanRow) (run : ℕ → Option Job) (own : (c : ℕ) (j : Job) → run c ≡ Some j → Placed rows c j.row) where
  -- Each job is of a row on its controller, also where that on c has ended.
  own_drop : (c : ℕ) → (d : ℕ) (j : Job) → put c None run d ≡ Some j → Placed rows d j.row
  own_drop c d j e =
      ⊎_elim
      (λ (k : d ≡ c). none_some j (sym (put_same c None run d k) ∙ e))
      (λ (n : d ≡ c → ⊥). own d j (sym (put_other c None run d n) ∙ e))
      (cases_eq d c)

  -- So it is where one of a row on c is started there.
  own_put
      : (c r t : ℕ) → Placed rows c r → (d : ℕ) (j : Job) → put c (Some (record { row = r; since = t })) run d ≡ Some j
      → Placed rows d j.row
  own_put c r t p d j e = ⊎_elim same other (cases_eq d c)
    where
      new : Job
      new = record { row = r; since = t }

      same : d ≡ c → Placed rows d j.row
      same k =
          let is : j ≡ new = some_same j new (sym e ∙ put_same c (Some new) run d k) in
          subst (λ (x : Job). Placed rows d x.row) (sym is) (rw k p)

      other : (d ≡ c → ⊥) → Placed rows d j.row
      other n = own d j (sym (put_other c (Some new) run d n) ∙ e)

  module _ (S E : ℕ → ℕ) (old : (c r : ℕ) → Placed rows c r → S r ≡ E r + of_row r (run c)) where
    -- The accounts balance where the job on c has ended.
    account_end
        : (E' : ℕ → ℕ) (c : ℕ) (j : Job) → run c ≡ Some j → E' j.row ≡ E j.row + 1
        → ((q : ℕ) → (q ≡ j.row → ⊥) → E' q ≡ E q)
        → (d q : ℕ) → Placed rows d q → S q ≡ E' q + of_row q (put c None run d)
    account_end E' c j is here there d q p = ⊎_elim same other (cases_eq q j.row)
      where
        same : q ≡ j.row → S q ≡ E' q + of_row q (put c None run d)
        same e =
            let at : d ≡ c = one_place p (rw e (own c j is)) in
            let x : of_row q (run d) ≡ 1 = ap (of_row q) (ap run at ∙ is) ∙ of_same q j (sym e) in
            let y : of_row q (put c None run d) ≡ 0 = ap (of_row q) (put_same c None run d at) in
            let z : E' q ≡ E q + 1 = rw e here in
            omega (arith, old d q p)

        other : (q ≡ j.row → ⊥) → S q ≡ E' q + of_row q (put c None run d)
        other n = ⊎_elim near far (cases_eq d c)
          where
            near : d ≡ c → S q ≡ E' q + of_row q (put c None run d)
            near k =
                let x : of_row q (run d) ≡ 0 = ap (of_row q) (ap run k ∙ is) ∙ of_other q j (λ e. n (sym e)) in
                let y : of_row q (put c None run d) ≡ 0 = ap (of_row q) (put_same c None run d k) in
                omega (arith, old d q p, there q n)

            far : (d ≡ c → ⊥) → S q ≡ E' q + of_row q (put c None run d)
            far k =
                let y : of_row q (put c None run d) ≡ of_row q (run d) = ap (of_row q) (put_other c None run d k) in
                omega (arith, old d q p, there q n)

    -- They balance where one is started on the idle controller c.
    account_start
        : (S' : ℕ → ℕ) (c r t : ℕ) → run c ≡ None → Placed rows c r → S' r ≡ S r + 1
        → ((q : ℕ) → (q ≡ r → ⊥) → S' q ≡ S q)
        → (d q : ℕ) → Placed rows d q → S' q ≡ E q + of_row q (put c (Some (record { row = r; since = t })) run d)
    account_start S' c r t idle place here there d q p = ⊎_elim same other (cases_eq q r)
      where
        new : Job
        new = record { row = r; since = t }

        same : q ≡ r → S' q ≡ E q + of_row q (put c (Some new) run d)
        same e =
            let at : d ≡ c = one_place p (rw e place) in
            let x : of_row q (run d) ≡ 0 = ap (of_row q) (ap run at ∙ idle) in
            let y : of_row q (put c (Some new) run d) ≡ 1 =
            ap (of_row q) (put_same c (Some new) run d at) ∙ of_same q new (sym e) in
            let z : S' q ≡ S q + 1 = rw e here in
            omega (arith, old d q p)

        other : (q ≡ r → ⊥) → S' q ≡ E q + of_row q (put c (Some new) run d)
        other n = ⊎_elim near far (cases_eq d c)
          where
            near : d ≡ c → S' q ≡ E q + of_row q (put c (Some new) run d)
            near k =
                let x : of_row q (run d) ≡ 0 = ap (of_row q) (ap run k ∙ idle) in
                let y : of_row q (put c (Some new) run d) ≡ 0 =
                ap (of_row q) (put_same c (Some new) run d k) ∙ of_other q new (λ e. n (sym e)) in
                omega (arith, old d q p, there q n)

            far : (d ≡ c → ⊥) → S' q ≡ E q + of_row q (put c (Some new) run d)
            far k =
                let y : of_row q (put c (Some new) run d) ≡ of_row q (run d) =
                ap (of_row q) (put_other c (Some new) run d k) in
                omega (arith, old d q p, there q n)

-- ---- the books after each deed

-- The state with no job on c, and with these counts.
abbrev dropped : State → ℕ → List Counts → State
dropped s c counts = record {
  controllers = s.controllers;
  rows = s.rows;
  mode = s.mode;
  opening = s.opening;
  next = s.next;
  shows = set s.shows c None;
  since = s.since;
  counts = counts;
}

-- What is told where no job runs on c any more, with these ends.
abbrev pub told_dropped : Told → ℕ → (ℕ → ℕ) → (ℕ → ℕ) → (ℕ → ℕ) → Told
told_dropped h c reports strikes cuts = record {
  ticks = h.ticks;
  mode = h.mode;
  opening = h.opening;
  running = put c None h.running;
  starts = h.starts;
  reports = reports;
  strikes = strikes;
  cuts = cuts;
}

module _ {m : ℕ} {rows : List PlanRow} {s : State} {h : Told} (b : Booked m rows s h) where
  -- The job j on c is ended: counted by `more` in the machine, by R, K and C in the history.
  book_end
      : (c : ℕ) (j : Job) → c < m → h.running c ≡ Some j → (more : Counts → Counts) (R K C : ℕ → ℕ)
      → ◌≡◌ {A = Counts} (record { starts = h.starts j.row; reports = R j.row; cuts = C j.row + K j.row })
      (more (counts_of h j.row))
      → ((q : ℕ) → (q ≡ j.row → ⊥) → (R q ≡ h.reports q) × (K q ≡ h.strikes q) × (C q ≡ h.cuts q))
      → R j.row + K j.row + C j.row ≡ ends h j.row + 1
      → Booked m rows (dropped s c (count_at s.counts j.row more)) (told_dropped h c R K C)
  book_end c j l is more R K C here there total = record {
    controllers = b.controllers;
    rows_kept = b.rows_kept;
    shows = length-set s.shows c None ∙ b.shows;
    since = b.since;
    counts = omega (arith, length-set s.counts j.row (more (get_or s.counts j.row none_yet)), b.counts);
    next = b.next;
    mode = b.mode;
    opening = b.opening;
    jobs = λ d. job_drop s.shows s.since c (omega (arith, b.shows)) d ∙ put_along c None (job s) h.running b.jobs d;
    tallies = tally_put s.counts j.row more (length rows) (counts_of h) new b.counts below b.tallies here other;
    own = own_drop rows h.running b.own c;
    account =
        account_end rows h.running b.own h.starts (ends h) b.account (λ q. R q + K q + C q) c j is total elsewhere;
    few = b.few;
  }
    where
      new : ℕ → Counts
      new q = record { starts = h.starts q; reports = R q; cuts = C q + K q }

      below : j.row < length rows
      below = let p = b.own c j is in row_below rows j.row p.row p.at

      other : (q : ℕ) → (q ≡ j.row → ⊥) → new q ≡ counts_of h q
      other q n = let (x, y, z) = there q n in counts_same refl x (omega arith)

      elsewhere : (q : ℕ) → (q ≡ j.row → ⊥) → R q + K q + C q ≡ ends h q
      elsewhere q n = let (x, y, z) = there q n in omega arith

  -- The job that is to end has been counted as started, and not yet as ended.
  room : (c : ℕ) (j : Job) → h.running c ≡ Some j → ends h j.row + 1 ≤ most
  room c j is =
      let p = b.own c j is in
      let x : of_row j.row (h.running c) ≡ 1 = ap (of_row j.row) is ∙ of_same j.row j refl in
      omega (arith, b.account c j.row p, b.few c j.row p)

  -- A cut.
  book_cut
      : (c : ℕ) (j : Job) → c < m → h.running c ≡ Some j
      → Booked m rows (act s (Cut c j.row)) (tell_event h (Cut c j.row))
  book_cut c j l is =
      let x : one_more j.row h.cuts j.row ≡ h.cuts j.row + 1 =
      put_same j.row (h.cuts j.row + 1) h.cuts j.row refl in
      book_end c j l is with_cut h.reports h.strikes (one_more j.row h.cuts)
      (counts_same refl refl (omega (arith, room c j is)))
      (λ q n. (refl, refl, put_other j.row (h.cuts j.row + 1) h.cuts q n))
      (omega arith)

  -- A start.
  book_start
      : (c r : ℕ) → c < m → h.running c ≡ None → Placed rows c r → h.starts r < most
      → Booked m rows (act s (Start c r)) (tell_event h (Start c r))
  book_start c r l idle place low = record {
    controllers = b.controllers;
    rows_kept = b.rows_kept;
    shows = length-set s.shows c (Some r) ∙ b.shows;
    since = omega (arith, length-set s.since c s.next, b.since);
    counts = omega (arith, length-set s.counts r (with_start (get_or s.counts r none_yet)), b.counts);
    next = b.next;
    mode = b.mode;
    opening = b.opening;
    jobs = λ d.
        job_put s.shows s.since c (Some r) s.next (omega (arith, b.shows)) (omega (arith, b.since)) d
        ∙ put_along c (Some (record { row = r; since = s.next })) (job s) h.running b.jobs d
        ∙ ap (λ (t : ℕ). put c (Some (record { row = r; since = t })) h.running d) b.next;
    tallies =
        tally_put s.counts r with_start (length rows) (counts_of h) new b.counts (row_below rows r place.row place.at)
        b.tallies (counts_same (omega (arith, plus)) refl refl)
        (λ q n. counts_same (put_other r (h.starts r + 1) h.starts q n) refl refl);
    own = own_put rows h.running b.own c r h.ticks place;
    account =
        account_start rows h.running b.own h.starts (ends h) b.account (one_more r h.starts) c r h.ticks idle
        place plus
        (λ q n. put_other r (h.starts r + 1) h.starts q n);
    few = λ d q p. ⊎_elim
        (λ (e : q ≡ r). omega (arith, put_same r (h.starts r + 1) h.starts q e))
        (λ (n : q ≡ r → ⊥). omega (arith, put_other r (h.starts r + 1) h.starts q n, b.few d q p))
        (cases_eq q r);
  }
    where
      new : ℕ → Counts
      new q = record { starts = one_more r h.starts q; reports = h.reports q; cuts = h.cuts q + h.strikes q }

      plus : one_more r h.starts r ≡ h.starts r + 1
      plus = put_same r (h.starts r + 1) h.starts r refl

  -- A switch.
  book_switch : Booked m rows (act s Switch) (tell_event h Switch)
  book_switch = record {
    controllers = b.controllers;
    rows_kept = b.rows_kept;
    shows = b.shows;
    since = b.since;
    counts = b.counts;
    next = b.next;
    mode = refl;
    opening = b.next;
    jobs = b.jobs;
    tallies = b.tallies;
    own = b.own;
    account = b.account;
    few = b.few;
  }

  -- Each event.
  book_act : (e : Event) → Valid m rows h e → Booked m rows (act s e) (tell_event h e)
  book_act Switch v = book_switch
  book_act (Cut c r) (l, (j, is, same)) =
      subst (λ (q : ℕ). Booked m rows (act s (Cut c q)) (tell_event h (Cut c q))) same (book_cut c j l is)
  book_act (Start c r) (l, idle, place, low) = book_start c r l idle place low

  -- The end of the instant.
  pub book_passed : Booked m rows (passed s) (tell_tick h)
  book_passed = record {
    controllers = b.controllers;
    rows_kept = b.rows_kept;
    shows = b.shows;
    since = b.since;
    counts = b.counts;
    next = ap (λ (n : ℕ). n + 1) b.next;
    mode = b.mode;
    opening = b.opening;
    jobs = b.jobs;
    tallies = b.tallies;
    own = b.own;
    account = b.account;
    few = b.few;
  }

  -- A return.
  pub book_return : Booked m rows (returned s) (tell_done h Return)
  book_return = record {
    controllers = b.controllers;
    rows_kept = b.rows_kept;
    shows = b.shows;
    since = b.since;
    counts = b.counts;
    next = b.next;
    mode = refl;
    opening = b.next;
    jobs = b.jobs;
    tallies = b.tallies;
    own = b.own;
    account = b.account;
    few = b.few;
  }

  -- What the bench shows is what the history has running.
  pub shown_is : (c : ℕ) → get_or s.shows c None ≡ row_of (h.running c)
  shown_is c = go (get_or s.shows c None) (get_or s.since c 0) ∙ ap row_of (b.jobs c)
    where
      go : (o : Option ℕ) (t : ℕ) → o ≡ row_of (job_of o t)
      go None t = refl
      go (Some r) t = refl

  -- A controller that the bench shows busy runs a job of that row.
  running_is
      : (c r : ℕ) → get_or s.shows c None ≡ Some r → h.running c ≡ Some (record { row = r; since = get_or s.since c 0 })
  running_is c r e = sym (b.jobs c) ∙ ap (λ (o : Option ℕ). job_of o (get_or s.since c 0)) e

  -- A report.
  pub book_report
      : (c r : ℕ) → c < m → get_or s.shows c None ≡ Some r → Booked m rows (ended s c with_report) (tell_done h (Report c))
  book_report c r l e =
      let j : Job = record { row = r; since = get_or s.since c 0 } in
      let is : h.running c ≡ Some j = running_is c r e in
      let x : one_more r h.reports r ≡ h.reports r + 1 = put_same r (h.reports r + 1) h.reports r refl in
      subst₂ (λ (o : Option ℕ) (w : Option Job). Booked m rows
      (dropped s c (count_for s.counts o with_report))
      (told_dropped h c (one_more_for w h.reports) h.strikes h.cuts))
      (sym e) (sym is)
      (book_end c j l is with_report (one_more r h.reports) h.strikes h.cuts
      (counts_same refl (omega (arith, room c j is)) refl)
      (λ q n. (put_other r (h.reports r + 1) h.reports q n, refl, refl)) (omega arith))

  -- A strike.
  pub book_strike
      : (c r : ℕ) → c < m → get_or s.shows c None ≡ Some r → Booked m rows (ended s c with_cut) (tell_done h (Strike c))
  book_strike c r l e =
      let j : Job = record { row = r; since = get_or s.since c 0 } in
      let is : h.running c ≡ Some j = running_is c r e in
      let x : one_more r h.strikes r ≡ h.strikes r + 1 = put_same r (h.strikes r + 1) h.strikes r refl in
      subst₂ (λ (o : Option ℕ) (w : Option Job). Booked m rows
      (dropped s c (count_for s.counts o with_cut))
      (told_dropped h c h.reports (one_more_for w h.strikes) h.cuts))
      (sym e) (sym is)
      (book_end c j l is with_cut h.reports (one_more r h.strikes) h.cuts
      (counts_same refl refl (omega (arith, room c j is)))
      (λ q n. (refl, put_other r (h.strikes r + 1) h.strikes q n, refl)) (omega arith))

-- The books after the events of a tick.
pub book_acts
    : {m : ℕ} {rows : List PlanRow} (es : List Event) {s : State} {h : Told} → Booked m rows s h → Valids m rows h es
    → Booked m rows (acts s es) (tell_events h es)
book_acts [] b v = b
book_acts (e ∷ es) {s} {h} b (v, vs) = book_acts es {s = act s e} {h = tell_event h e} (book_act b e v) vs

-- The books after a load.
pub book_loaded : (m : ℕ) (rows : List PlanRow) → m ≤ 8 → length rows ≤ 64 → Booked m rows (loaded m rows) nothing
book_loaded m rows low few = record {
  controllers = refl;
  rows_kept = refl;
  shows = length-replicate m None;
  since = omega (arith, length-replicate {A = ℕ} 8 0);
  counts = omega (arith, length-replicate 64 none_yet);
  next = refl;
  mode = refl;
  opening = refl;
  jobs = λ c. ap (λ (o : Option ℕ). job_of o (get_or (replicate 8 0) c 0)) (idle m c);
  tallies = λ r l. get_or-replicate 64 r none_yet none_yet (omega arith);
  own = λ c j e. none_some j e;
  account = λ c r p. omega arith;
  few = λ c r p. omega arith;
}
  where
    idle : (n c : ℕ) → get_or {A = Option ℕ} (replicate n None) c None ≡ None
    idle zero c = refl
    idle (suc n) zero = refl
    idle (suc n) (suc c) = idle n c
