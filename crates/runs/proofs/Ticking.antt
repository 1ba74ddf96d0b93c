-- A tick into lent places.
use Rattle.std.proofs.Common.{◌≡◌, ℕ, ◌+◌, ◌-◌, ◌*◌, ◌<◌, ◌≤◌, min, Bool, cond, ltb, leb, List, ◌++◌, length, take, drop, replicate, Ok, Err, Result, sym, refl, ap, ◌∙◌, ap₂, ⊎_elim, arith}
use Rattle.std.proofs.lemmas.List.{append_assoc, drop-append-le, drop-replicate, length-append, length-replicate, length-take, take-append-drop}
use Rattle.std.proofs.lemmas.Bool.{cases_lt, le-ltb, lt-ltb}
use Rattle.records.specs.Lists.{lent}
use Rattle.records.specs.declared.Records.{Records}
use Rattle.tasks.specs.Refusals.{control_refusal}
use Rattle.tasks.specs.declared.fault.ControlFault.{ControlFault}
use Rattle.tasks.specs.declared.fault.ControlFault.TheVariants.{Over, Places}
use Rattle.machine.specs.Below.{first_below}
use Rattle.machine.specs.Entries.{written}
use Rattle.machine.specs.Machine.{State, after, answer, answered, blocked, end_of_time, settle, tick_answer, tick_events, unless_blocked, when_loaded}
use Rattle.machine.specs.Entries.{Answer}
use Rattle.machine.specs.declared.entry.Reply.TheVariants.{Ticked, Done, Shown, Counted, Stood}
use Rattle.machine.specs.declared.entry.Call.TheVariants.{Tick}
use Rattle.machine.specs.declared.event.Event.{Event}
use Rattle.machine.specs.declared.event.Event.TheVariants.{Switch}
use Rattle.control.specs.Calls.{EventsAfter, counted}
use Rattle.runs.specs.Runs.{places_after}

-- the list stands over the same places
pub same_lender : (before list : Records Event) (r : Result (List Event) ControlFault) → EventsAfter before r list → list.places.ghost_name ≡ before.places.ghost_name
same_lender before list (Ok es) e = e.2
same_lender before list (Err fault) e = e.2

-- what the places hold
pub places_after_events : (before list : Records Event) (r : Result (List Event) ControlFault) → EventsAfter before r list → lent list ≡ places_after r (lent before)
places_after_events before list (Ok es) e = e.1
places_after_events before list (Err fault) e = e.1

-- as many places as a tick can fill, each with a switch
abbrev pub seventeen : List Event
seventeen = replicate 17 Switch

-- more than 17 places are as good as 17
fewer : (p k : ℕ) → k ≤ 17 → ltb (min p 17) k ≡ ltb p k
fewer p k l =
    ⊎_elim
    (λ (m : p < k). lt-ltb (min p 17) k (omega arith) ∙ sym (lt-ltb p k m))
    (λ (m : k ≤ p). le-ltb (min p 17) k (omega arith) ∙ sym (le-ltb p k m))
    (cases_lt p k)

same_answer : (s : State) → length s.shows ≤ 8 → (p q : ℕ) → q ≡ min p 17 → tick_answer s q ≡ tick_answer s p
same_answer s few p q e =
    ap (tick_answer s) e
    ∙ ap (λ (b : Bool). when_loaded s (cond (leb end_of_time s.next) (Err Over) (cond b (Err Places) (unless_blocked (first_below (length s.shows) (blocked s)) (tick_events s)))))
    (fewer p (2 * length s.shows + 1) (omega arith))

-- what a tick leaves does not depend on the number of places but by its answer
same_settled : (s : State) (p q : ℕ) (a : Answer) → settle s (Tick q) a ≡ settle s (Tick p) a
same_settled s p q (Ok (Ticked w)) = refl
same_settled s p q (Ok Done) = refl
same_settled s p q (Ok (Shown x)) = refl
same_settled s p q (Ok (Counted x)) = refl
same_settled s p q (Ok (Stood x)) = refl
same_settled s p q (Err x) = refl

-- the answer with n events, read off its number
taken_by : (r : Result (List Event) ControlFault) (n : ℕ) → Ok n ≡ counted r → (es : List Event) × (r ≡ Ok es) × (length es ≡ n)
taken_by (Ok es) n e = (es, refl, cc)
taken_by (Err fault) n e = let z : ◌≡◌ {A = ℕ} 0 1 = cc in absurd (omega arith)

refused_by : (r : Result (List Event) ControlFault) (fault : ControlFault) → Err fault ≡ counted r → r ≡ Err fault
refused_by (Ok es) fault e = let z : ◌≡◌ {A = ℕ} 0 1 = cc in absurd (omega arith)
refused_by (Err other) fault e = cc

module _ (s : State) (few : length s.shows ≤ 8) (p part : ℕ) (is : part ≡ min p 17) where
  -- the places that are lent
  abbrev places : List Event
  places = take part seventeen

  abbrev answer_here : Result (List Event) ControlFault
  answer_here = tick_answer s (length places)

  count : length places ≡ min p 17
  count = length-take part seventeen ∙ omega (arith, length-replicate 17 Switch)

  same : answer_here ≡ tick_answer s p
  same = same_answer s few p (length places) count

  pub small : (n : ℕ) → Ok n ≡ counted answer_here → (xs : List Event) → xs ≡ places_after answer_here places → length xs ≡ length places → n ≤ 17
  small n e xs w l =
      let (es, k, long) = taken_by answer_here n e in
      let z : length xs ≡ length es + length (drop (length es) places) =
      ap length w ∙ ap (λ (r : Result (List Event) ControlFault). length (places_after r places)) k ∙ length-append es (drop (length es) places) in
      omega (arith, count)

  -- an accepted tick: the places that were lent, and the others, are the events as an answer holds them
  pub ticked
      : (n : ℕ) → Ok n ≡ counted answer_here → (xs : List Event) → xs ≡ places_after answer_here places → length xs ≡ length places
      → Ok (Ticked (record { count = n; events = xs ++ drop part seventeen })) ≡ answer s (Tick p)
  ticked n e xs w l =
      let (es, k, long) = taken_by answer_here n e in
      let z : length xs ≡ length es + length (drop (length es) places) =
      ap length w ∙ ap (λ (r : Result (List Event) ControlFault). length (places_after r places)) k ∙ length-append es (drop (length es) places) in
      let inside : length es ≤ length places = omega arith in
      let whole : xs ++ drop part seventeen ≡ es ++ replicate (17 - length es) Switch =
      ap (λ (ys : List Event). ys ++ drop part seventeen) (w ∙ ap (λ (r : Result (List Event) ControlFault). places_after r places) k)
      ∙ append_assoc es (drop (length es) places) (drop part seventeen)
      ∙ ap (λ (ys : List Event). es ++ ys) (sym (drop-append-le (length es) places (drop part seventeen) inside) ∙ ap (drop (length es)) (take-append-drop part seventeen) ∙ drop-replicate (length es) 17 Switch) in
      ap₂ (λ (m : ℕ) (ys : List Event). Ok (Ticked (record { count = m; events = ys }))) (sym long) whole
      ∙ ap (answered (λ ys. Ticked (written ys))) (sym k ∙ same)

  -- a refused one
  pub unticked : (fault : ControlFault) → Err fault ≡ counted answer_here → Err (control_refusal fault) ≡ answer s (Tick p)
  unticked fault e = ap (answered (λ ys. Ticked (written ys))) (sym (refused_by answer_here fault e) ∙ same)

  -- what it leaves
  pub left : after s (Tick (length places)) ≡ after s (Tick p)
  left = same_settled s p (length places) (answer s (Tick (length places))) ∙ ap (λ (r : Result (List Event) ControlFault). settle s (Tick p) (answered (λ ys. Ticked (written ys)) r)) same
