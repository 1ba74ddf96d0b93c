-- What each call comes to, case by case, and that it touches one controller.
use Rattle.std.proofs.Common.{◌≡◌, ℕ, ◌<◌, ◌≤◌, cond, ltb, length, get_or, set, Some, None, Ok, Err, Option, Result, sym, refl, subst, ap₂, length-set, get_or-set_other}
use Rattle.std.proofs.lemmas.Bool.{lt-ltb, le-ltb, le-leb}
use Rattle.tasks.specs.declared.fault.BenchFault.{BenchFault}
use Rattle.tasks.specs.declared.fault.BenchFault.TheVariants.{NoController}
use Rattle.benches.specs.Commands.{OthersKept, States, by_answer, start_answer, start_after, end_answer, end_after, state_answer}

-- one controller changed leaves the others
set_others : (m : States) (c : ℕ) (s : Option ℕ) → OthersKept m (set m c s) c
set_others m c s =
    (length-set m c s, λ d apart. ap₂ (λ (n : ℕ) (x : Option ℕ). cond (ltb d n) (Ok x) (Err (NoController d))) (length-set m c s) (get_or-set_other m c d s None apart))

-- a taken command changes one controller, a refused one changes nothing
others_by : (r : Result (Unit {0}) BenchFault) (m : States) (c : ℕ) (s : Option ℕ) → OthersKept m (by_answer r (set m c s) m) c
others_by (Ok _) m c s = set_others m c s
others_by (Err _) m c s = (refl, λ d apart. refl)

-- a start's answer, and what it leaves
pub record Start (m : States) (c row : ℕ) (r : Result (Unit {0}) BenchFault) (n : States) : Type 0 where
  pub answer : r ≡ start_answer m c row
  pub after : n ≡ start_after m c row

-- no such controller
pub start_none : (m : States) (c row : ℕ) → length m ≤ c → Start m c row (Err (NoController c)) m
start_none m c row h =
    let e = le-ltb c (length m) h in
    record { answer = simp e; after = simp e }

-- an idle controller takes the row
pub start_done : (m : States) (c row : ℕ) → c < length m → row ≤ 63 → get_or m c None ≡ None → Start m c row (Ok tt) (set m c (Some row))
start_done m c row h w s =
    let e = lt-ltb c (length m) h in
    let f = le-leb row 63 w in
    record { answer = simp (e, f, s); after = simp (e, f, s) }

-- a start touches one controller
pub start_others : (m n : States) (c row : ℕ) → n ≡ start_after m c row → OthersKept m n c
start_others m n c row e = subst (λ x. OthersKept m x c) (sym e) (others_by (start_answer m c row) m c (Some row))

-- an end's answer, and what it leaves
pub record End (m : States) (c : ℕ) (r : Result (Unit {0}) BenchFault) (n : States) : Type 0 where
  pub answer : r ≡ end_answer m c
  pub after : n ≡ end_after m c

-- no such controller
pub end_none : (m : States) (c : ℕ) → length m ≤ c → End m c (Err (NoController c)) m
end_none m c h =
    let e = le-ltb c (length m) h in
    record { answer = simp e; after = simp e }

-- a busy controller becomes idle
pub end_done : (m : States) (c v : ℕ) → c < length m → get_or m c None ≡ Some v → End m c (Ok tt) (set m c None)
end_done m c v h s =
    let e = lt-ltb c (length m) h in
    record { answer = simp (e, s); after = simp (e, s) }

-- an end touches one controller
pub end_others : (m n : States) (c : ℕ) → n ≡ end_after m c → OthersKept m n c
end_others m n c e = subst (λ x. OthersKept m x c) (sym e) (others_by (end_answer m c) m c None)

-- a question's answer
pub state_is : (m : States) (c : ℕ) → c < length m → Ok (get_or m c None) ≡ state_answer m c
state_is m c h = let e = lt-ltb c (length m) h in simp e
