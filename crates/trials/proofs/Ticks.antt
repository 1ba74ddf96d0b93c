-- What ticks make of a plan with no tasks.
use Rattle.std.proofs.Common.{◌≡◌, ℕ, zero, suc, ◌+◌, ◌^◌, ◌<◌, ◌≤◌, ◌⊎◌, List, [], ◌∷◌, replicate, None, Ok, Err, Result, cond, inl, inr, refl, sym, ap, ◌∙◌, arith}
use Rattle.std.proofs.lemmas.Bool.{cases_lt, le-leb, lt-leb}
use Rattle.tasks.specs.declared.fault.ControlFault.TheVariants.{Over}
use Rattle.tasks.specs.declared.reason.Layer.TheVariants.{Control}
use Rattle.tasks.specs.declared.reason.Reason.TheVariants as reason
use Rattle.machine.specs.Entries.{Answer, entry, refuse, written}
use Rattle.machine.specs.Machine.{State, answer, answered, none_yet, run, settle}
use Rattle.machine.specs.declared.entry.Call.TheVariants.{Tick}
use Rattle.machine.specs.declared.entry.Reply.TheVariants.{Done, Ticked}
use Rattle.machine.specs.declared.entry.Entry.{Entry}
use Rattle.trials.specs.Trials.{idle_tick}

-- one controller, no tasks, after k ticks
abbrev quiet : ℕ → State
quiet k = record {
  controllers = 1;
  rows = [];
  mode = 0;
  opening = 0;
  next = k;
  shows = None ∷ [];
  since = replicate 8 0;
  counts = replicate 64 none_yet;
}

does_nothing : (k : ℕ) → k < 2 ^ 40 → answer (quiet k) (Tick 3) ≡ Ok (Ticked (written []))
does_nothing k l = ap (λ late. answered (λ es. Ticked (written es)) (cond late (Err Over) (Ok []))) (lt-leb (2 ^ 40) k l)

-- the entries after the first, and the first one's answer
abbrev tail : List Entry → List Entry
tail [] = []
tail (x ∷ xs) = xs

abbrev answer_of : List Entry → Answer
answer_of [] = Ok Done
answer_of (x ∷ xs) = x.answer

err_ok : {X Y : Type 0} {x : X} {y : Y} → ◌≡◌ {A = Result Y X} (Err x) (Ok y) → ⊥
err_ok e = let z : ◌≡◌ {A = ℕ} 0 1 = cc in omega arith

-- at the end of time a tick is refused
refused : (k : ℕ) → 2 ^ 40 ≤ k → answer (quiet k) (Tick 3) ≡ refuse reason.Over Control 0
refused k l = ap (λ late. answered (λ es. Ticked (written es)) (cond late (Err Over) (Ok []))) (le-leb (2 ^ 40) k l)

pub quiet_run : (n k : ℕ) → k + n ≤ 2 ^ 40 → run (quiet k) (replicate n (Tick 3)) ≡ replicate n idle_tick
quiet_run zero k l = refl
quiet_run (suc n) k l =
    ap (λ a. entry (Tick 3) a ∷ run (settle (quiet k) (Tick 3) a) (replicate n (Tick 3))) (does_nothing k (omega (arith, l)))
    ∙ ap (λ h. idle_tick ∷ h) (quiet_run n (k + 1) (omega (arith, l)))

-- and no later tick does nothing
pub quiet_before : (n k : ℕ) → k ≤ 2 ^ 40 → run (quiet k) (replicate n (Tick 3)) ≡ replicate n idle_tick → k + n ≤ 2 ^ 40
quiet_before zero k l e = omega (arith, l)
quiet_before (suc n) k l e = go (λ h. quiet_before n (k + 1) h) (cases_lt k (2 ^ 40))
  where
    go : (k + 1 ≤ 2 ^ 40 → run (quiet (k + 1)) (replicate n (Tick 3)) ≡ replicate n idle_tick → k + 1 + n ≤ 2 ^ 40) → (k < 2 ^ 40) ⊎ (2 ^ 40 ≤ k) → k + suc n ≤ 2 ^ 40
    go later (inl h) =
        let first = ap (λ a. entry (Tick 3) a ∷ run (settle (quiet k) (Tick 3) a) (replicate n (Tick 3))) (does_nothing k h) in
        let rest : run (quiet (k + 1)) (replicate n (Tick 3)) ≡ replicate n idle_tick = ap tail (sym first ∙ e) in
        omega (arith, later (omega (arith, h)) rest)
    go later (inr h) =
        let first = ap (λ a. entry (Tick 3) a ∷ run (settle (quiet k) (Tick 3) a) (replicate n (Tick 3))) (refused k h) in
        absurd (err_ok (ap (λ (h : List Entry). answer_of h) (sym first ∙ e)))
