-- A tick's events, carried out one controller after the other.
use Rattle.std.proofs.Common.{◌≡◌, ℕ, zero, suc, ◌+◌, ◌<◌, ◌≤◌, Bool, true, false, cond, ◌&&◌, ltb, leb, ◌≢◌, ◌⊎◌, List, [], ◌∷◌, ◌++◌, length, get_or, is_some, Some, None, Ok, Err, Option, refl, ap, ◌∙◌, ap₂, inl, inr, add-one, arith}
use Rattle.std.proofs.lemmas.List.{length-append, length-set, get_or-set_same, get_or-set_other}
use Rattle.std.proofs.lemmas.Bool.{both_ways, cases_eq}
use Rattle.tasks.specs.declared.fault.BenchFault.TheVariants.{NoController, NoRow, Busy, Idle}
use Rattle.benches.specs.Commands.{by_state}
use Rattle.machine.specs.Below.{each_below}
use Rattle.machine.specs.Machine.{State, act, acts, cut_event, job_of, start_event}
use Rattle.machine.specs.declared.event.Event.{Event}
use Rattle.machine.specs.declared.event.Event.TheVariants.{Switch, Cut, Start}
use Rattle.control.specs.declared.turn.Deed.{Deed}
use Rattle.control.specs.declared.turn.Deed.TheVariants.{End, Begin}
use Rattle.control.specs.Turns.{Able, deed_events, event_if, event_of}

pub acts_append : (xs ys : List Event) (s : State) → acts s (xs ++ ys) ≡ acts (acts s xs) ys
acts_append [] ys s = refl
acts_append (x ∷ xs) ys s = acts_append xs ys (act s x)

-- the next instant stays while events are carried out
pub acts_next : (es : List Event) (s : State) → (acts s es).next ≡ s.next
acts_next [] s = refl
acts_next (Switch ∷ es) s = acts_next es (act s Switch)
acts_next (Cut c r ∷ es) s = acts_next es (act s (Cut c r))
acts_next (Start c r ∷ es) s = acts_next es (act s (Start c r))

-- the events of one controller more
pub deed_more : (deed : Deed) (n : ℕ) (rows : List (Option ℕ)) → deed_events deed (n + 1) rows ≡ deed_events deed n rows ++ event_if deed n (get_or rows n None)
deed_more deed n rows = ap (λ k. deed_events deed k rows) (add-one n)

-- ---- what the bench shows meanwhile

one_length : (deed : Deed) (c : ℕ) (o : Option ℕ) (s : State) → length (acts s (event_if deed c o)).shows ≡ length s.shows
one_length deed c None s = refl
one_length End c (Some r) s = length-set s.shows c None
one_length Begin c (Some r) s = length-set s.shows c (Some r)

one_other : (deed : Deed) (c : ℕ) (o : Option ℕ) (s : State) (d : ℕ) → d ≢ c → get_or (acts s (event_if deed c o)).shows d None ≡ get_or s.shows d None
one_other deed c None s d n = refl
one_other End c (Some r) s d n = get_or-set_other s.shows c d None None n
one_other Begin c (Some r) s d n = get_or-set_other s.shows c d (Some r) None n

-- there are as many controllers
pub shows_length : (deed : Deed) (rows : List (Option ℕ)) (s : State) (n : ℕ) → length (acts s (deed_events deed n rows)).shows ≡ length s.shows
shows_length deed rows s zero = refl
shows_length deed rows s (suc n) =
    let before : State = acts s (deed_events deed n rows) in
    ap (λ (t : State). length t.shows) (acts_append (deed_events deed n rows) (event_if deed n (get_or rows n None)) s)
    ∙ one_length deed n (get_or rows n None) before
    ∙ shows_length deed rows s n

-- those whose turn is yet to come do what they did
pub shows_above : (deed : Deed) (rows : List (Option ℕ)) (s : State) (d n : ℕ) → n ≤ d → get_or (acts s (deed_events deed n rows)).shows d None ≡ get_or s.shows d None
shows_above deed rows s d zero l = refl
shows_above deed rows s d (suc n) l =
    let before : State = acts s (deed_events deed n rows) in
    let apart : d ≢ n = omega arith in
    ap (λ (t : State). get_or t.shows d None) (acts_append (deed_events deed n rows) (event_if deed n (get_or rows n None)) s)
    ∙ one_other deed n (get_or rows n None) before d apart
    ∙ shows_above deed rows s d n (omega arith)

-- a controller that is cut is idle, another does what it did
abbrev pub cut_shown : Option ℕ → Option ℕ → Option ℕ
cut_shown None o = o
cut_shown (Some r) o = None

one_cut : (c : ℕ) (o : Option ℕ) (s : State) → c < length s.shows → get_or (acts s (event_if End c o)).shows c None ≡ cut_shown o (get_or s.shows c None)
one_cut c None s l = refl
one_cut c (Some r) s l = get_or-set_same s.shows c None None l

pub shows_cut
    : (rows : List (Option ℕ)) (s : State) (c n : ℕ) → c < n → n ≤ length s.shows
    → get_or (acts s (deed_events End n rows)).shows c None ≡ cut_shown (get_or rows c None) (get_or s.shows c None)
shows_cut rows s c zero l k = absurd (omega arith)
shows_cut rows s c (suc n) l k =
    ap (λ (t : State). get_or t.shows c None) (acts_append (deed_events End n rows) (event_if End n (get_or rows n None)) s)
    ∙ go (λ m. shows_cut rows s c n m (omega arith)) (cases_eq c n)
  where
    before : State
    before = acts s (deed_events End n rows)

    go
        : (c < n → get_or before.shows c None ≡ cut_shown (get_or rows c None) (get_or s.shows c None)) → (c ≡ n) ⊎ (c ≡ n → ⊥)
        → get_or (acts before (event_if End n (get_or rows n None))).shows c None ≡ cut_shown (get_or rows c None) (get_or s.shows c None)
    go below (inl e) =
        rw e (one_cut n (get_or rows n None) before (omega (arith, shows_length End rows s n))
        ∙ ap (cut_shown (get_or rows n None)) (shows_above End rows s n n (omega arith)))
    go below (inr e) = one_other End n (get_or rows n None) before c e ∙ below (omega arith)

-- ---- what the bench takes

-- what it takes depends on how many controllers there are and what the one does
pub able_along
    : (deed : Deed) (s t : State) (c r : ℕ) → length t.shows ≡ length s.shows → get_or t.shows c None ≡ get_or s.shows c None
    → Able s (event_of deed c r) → Able t (event_of deed c r)
able_along End s t c r len same able =
    ap₂ (λ (n : ℕ) (o : Option ℕ). cond (ltb c n) (by_state o (Err (Idle c)) (Ok tt)) (Err (NoController c))) len same ∙ able
able_along Begin s t c r len same able =
    ap₂ (λ (n : ℕ) (o : Option ℕ). cond (ltb c n) (cond (leb r 63) (by_state o (Ok tt) (Err (Busy c))) (Err (NoRow r))) (Err (NoController c))) len same ∙ able

-- ---- what the turn says is what the tick decides

pub each_same : (n : ℕ) (f g : ℕ → List Event) → ((c : ℕ) → c < n → f c ≡ g c) → each_below n f ≡ each_below n g
each_same zero f g same = refl
each_same (suc n) f g same = ap₂ ◌++◌ (each_same n f g (λ c l. same c (omega arith))) (same n (omega arith))

pub cut_same : (c : ℕ) (b : Bool) (o : Option ℕ) (t : ℕ) → event_if End c (cond b o None) ≡ cut_event c b (job_of o t)
cut_same c true None t = refl
cut_same c false None t = refl
cut_same c true (Some r) t = refl
cut_same c false (Some r) t = refl

pub start_same : (c : ℕ) (o : Option ℕ) → event_if Begin c o ≡ start_event c o
start_same c None = refl
start_same c (Some r) = refl

-- a row of a job that is cut is the row of the job
pub cut_of : (b : Bool) (o : Option ℕ) (r : ℕ) → cond b o None ≡ Some r → o ≡ Some r
cut_of true o r e = e
cut_of false o r e = let z : ◌≡◌ {A = ℕ} 0 1 = cc in absurd (omega arith)

-- where a row is due and the controller is not blocked, the cuts leave it idle
pub left_idle : (d : Option ℕ) (b : Bool) (o : Option ℕ) (t r : ℕ) → d ≡ Some r → (is_some d && is_some (cond b None (job_of o t))) ≡ false → cut_shown (cond b o None) o ≡ None
left_idle None b o t r e f = let z : ◌≡◌ {A = ℕ} 0 1 = cc in absurd (omega arith)
left_idle (Some q) true None t r e f = refl
left_idle (Some q) true (Some p) t r e f = refl
left_idle (Some q) false None t r e f = refl
left_idle (Some q) false (Some p) t r e f = absurd (both_ways true f refl)

-- there is at most one event a controller
pub deed_length : (deed : Deed) (rows : List (Option ℕ)) (n : ℕ) → length (deed_events deed n rows) ≤ n
deed_length deed rows zero = omega arith
deed_length deed rows (suc n) =
    omega (arith, length-append (deed_events deed n rows) (event_if deed n (get_or rows n None)), deed_length deed rows n, one (get_or rows n None))
  where
    one : (o : Option ℕ) → length (event_if deed n o) ≤ 1
    one None = omega arith
    one (Some r) = omega arith
