-- A load, and calls sent one after the other.
use Rattle.std.proofs.Common.{◌≡◌, ℕ, ◌+◌, ◌<◌, ◌≤◌, min, List, [], ◌∷◌, ◌++◌, length, get_or, take, drop, set, Ok, Result, sym, ap, ◌∙◌, ap₂, subst₂, ⊎_elim, arith, take_all}
use Rattle.std.proofs.lemmas.List.{drop_all, drop-drop, drop-set-lt, length-take, take_more_set}
use Rattle.std.proofs.lemmas.Bool.{cases_lt}
use Rattle.tasks.specs.declared.fault.ControlFault.{ControlFault}
use Rattle.planner.proofs.Standing.{stands}
use Rattle.planner.specs.Plans.{rows_of}
use Rattle.planner.specs.Standing.{Stands}
use Rattle.planner.specs.declared.plans.Plan.{Plan}
use Rattle.planner.specs.declared.row.Row.{Row}
use Rattle.benches.specs.Commands.{States}
use Rattle.machine.proofs.Loading.{load_idle, load_loaded}
use Rattle.machine.proofs.Runs.{every_run_keeps_the_laws}
use Rattle.machine.proofs.Sending.{end_more, run_more}
use Rattle.machine.proofs.Unique.{laws_leave_nothing_open}
use Rattle.machine.specs.Entries.{entry}
use Rattle.machine.specs.Laws.{Laws}
use Rattle.machine.specs.Machine.{State, after, answer, at_end, by_result, load_answer, loaded, run as run_of}
use Rattle.machine.specs.Entries.{Answer}
use Rattle.machine.specs.declared.entry.Call.{Call}
use Rattle.machine.specs.declared.entry.Entry.{Entry}
use Rattle.control.specs.Calls.{Loads, Steps}
use Rattle.control.specs.States.{state_of}
use Rattle.control.specs.declared.control.Control.{Control}
use Rattle.runs.specs.Runs.{Ran, after_load, sent}

-- ---- as many as there are

take_short : {X : Type 0} (n : ℕ) (xs : List X) → take (min n (length xs)) xs ≡ take n xs
take_short n xs =
    ⊎_elim
    (λ (l : length xs < n). let e : min n (length xs) ≡ length xs = omega arith in ap (λ k. take k xs) e ∙ take_all (length xs) xs (omega arith) ∙ sym (take_all n xs (omega arith)))
    (λ (l : n ≤ length xs). let e : min n (length xs) ≡ n = omega arith in ap (λ k. take k xs) e)
    (cases_lt (length xs) n)

drop_short : {X : Type 0} (n : ℕ) (xs : List X) → drop (min n (length xs)) xs ≡ drop n xs
drop_short n xs =
    ⊎_elim
    (λ (l : length xs < n). let e : min n (length xs) ≡ length xs = omega arith in ap (λ k. drop k xs) e ∙ drop_all (length xs) xs (omega arith) ∙ sym (drop_all n xs (omega arith)))
    (λ (l : n ≤ length xs). let e : min n (length xs) ≡ n = omega arith in ap (λ k. drop k xs) e)
    (cases_lt (length xs) n)

-- ---- the load

-- an accepted load begins the run
pub begun
    : {B : Type 0} (means : B → States) (plan : Plan) (a b : Control B) (x : Unit {0})
    → Ok x ≡ load_answer (state_of means a) plan.controllers → Loads means a b plan
    → (state_of means b ≡ loaded plan.controllers (rows_of plan)) × (b.plan ≡ plan)
begun means plan a b x e l = (
  l.state ∙ load_loaded (state_of means a) plan.controllers (rows_of plan) (sym e),
  l.kept ∙ ap (λ (o : Result (Unit {0}) ControlFault). by_result o plan a.plan) (sym e),
)

-- ---- the calls

-- one call more is sent and written down
pub one_more
    : {B F : Type 0} (means : B → States) (keeps : B → F) (s : State) (calls : List Call) (journal journal₀ : List Entry) (i : ℕ) (d : Call)
    (a b : Control B) (r : Answer) → i < length calls → i < length journal
    → state_of means a ≡ at_end s (take i calls) → take i journal ≡ run_of s (take i calls) → drop i journal ≡ drop i journal₀
    → r ≡ answer (state_of means a) (get_or calls i d) → Steps means keeps a b (get_or calls i d)
    → (state_of means b ≡ at_end s (take (i + 1) calls))
    × (take (i + 1) (set journal i (entry (get_or calls i d) r)) ≡ run_of s (take (i + 1) calls))
    × (drop (i + 1) (set journal i (entry (get_or calls i d) r)) ≡ drop (i + 1) journal₀)
one_more means keeps s calls journal journal₀ i d a b r l k state history rest is steps =
    let call : Call = get_or calls i d in (
      steps.state ∙ ap (λ (t : State). after t call) state ∙ sym (end_more s calls i d l),
      take_more_set journal i (entry call r) k
          ∙ ap₂ (λ (es : List Entry) (x : Answer). es ++ (entry call x ∷ [])) history (is ∙ ap (λ (t : State). answer t call) state)
          ∙ sym (run_more s calls i d l),
      drop-set-lt (i + 1) journal i (entry call r) (omega arith)
          ∙ sym (drop-drop 1 i journal) ∙ ap (drop 1) rest ∙ drop-drop 1 i journal₀,
    )

-- all are sent
pub all_sent
    : {B F : Type 0} (means : B → States) (keeps : B → F) (plan : Plan) (calls : List Call) (a b c : Control B) (journal journal' : List Entry) (i : ℕ)
    (x : Unit {0}) → Ok x ≡ load_answer (state_of means a) plan.controllers
    → i ≡ min (length calls) (length journal) → length journal' ≡ length journal
    → state_of means c ≡ at_end (loaded plan.controllers (rows_of plan)) (take i calls)
    → c.plan ≡ plan → keeps c.bench ≡ keeps b.bench → b.bench ≡ a.bench
    → take i journal' ≡ run_of (loaded plan.controllers (rows_of plan)) (take i calls) → drop i journal' ≡ drop i journal
    → (Ok i ≡ after_load (load_answer (state_of means a) plan.controllers) (length (sent calls journal)))
    × Ran means keeps plan calls a c journal journal'
all_sent {B} means keeps plan calls a b c journal journal' i x e is long state kept fixed bench history rest = (
  result,
  record {
    history = written;
    rest = sym (ap (λ k. drop k journal') far ∙ drop_short (length calls) journal') ∙ rest ∙ ap (λ k. drop k journal) is ∙ drop_short (length calls) journal;
    state = state ∙ ap (at_end start) near;
    kept = kept;
    fixed = fixed ∙ ap keeps bench;
    laws = subst₂ (Laws m rows) (sym written) (sym shown) (every_run_keeps_the_laws m rows some st (sent calls journal));
    only = λ h shows same laws.
        let (p, q) = laws_leave_nothing_open m rows some st h shows laws in
        (p ∙ ap (run_of start) same ∙ sym written, q ∙ ap (λ (cs : List Call). (at_end start cs).shows) same ∙ sym shown);
  },
)
  where
    m : ℕ
    m = plan.controllers

    rows : List Row
    rows = rows_of plan

    start : State
    start = loaded m rows

    st : Stands m rows
    st = stands plan

    some : 1 ≤ m
    some = (load_idle (state_of means a) m (sym e)).1

    near : take i calls ≡ sent calls journal
    near =
        let k : i ≡ min (length journal) (length calls) = omega arith in
        ap (λ n. take n calls) k ∙ take_short (length journal) calls

    far : i ≡ min (length calls) (length journal')
    far = omega arith

    written : take (length calls) journal' ≡ run_of start (sent calls journal)
    written = sym (ap (λ k. take k journal') far ∙ take_short (length calls) journal') ∙ history ∙ ap (run_of start) near

    shown : means c.bench ≡ (at_end start (sent calls journal)).shows
    shown = ap (λ (t : State). t.shows) (state ∙ ap (at_end start) near)

    count : i ≡ length (sent calls journal)
    count = omega (arith, length-take (length journal) calls)

    result : Ok i ≡ after_load (load_answer (state_of means a) plan.controllers) (length (sent calls journal))
    result = ap Ok count ∙ ap (λ (o : Result (Unit {0}) ControlFault). after_load o (length (sent calls journal))) e
