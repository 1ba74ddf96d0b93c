-- What the controllers of a bench do, what each call answers, and what it leaves.
use Rattle.std.specs.Prelude.{◌≡◌, ℕ, cond, List, length, Some, None, Ok, Err, Option, Result, ◌≢◌, nat_le, nat_lt, slice_index_or, slice_set}
use Rattle.tasks.specs.declared.fault.BenchFault.{BenchFault}
use Rattle.tasks.specs.declared.fault.BenchFault.TheVariants.{NoController, NoRow, Busy, Idle}

-- What each controller does, from controller 0 on: none where it is idle, and its row where it is busy.
abbrev pub States : Type 0
States = List (Option ℕ)

-- The first where a controller is idle, the second where it is busy.
abbrev pub by_state : {X : Type 0} → Option ℕ → X → X → X
by_state None idle busy = idle
by_state (Some _) idle busy = busy

-- The first where a command is taken, the second where it is refused.
abbrev pub by_answer : {X : Type 0} → Result (Unit {0}) BenchFault → X → X → X
by_answer (Ok _) taken refused = taken
by_answer (Err _) taken refused = refused

-- The answer to the start of a row on a controller that does this: there must be such a row, and the controller must be idle.
abbrev pub start_on : Option ℕ → ℕ → ℕ → Result (Unit {0}) BenchFault
start_on held c row = cond (nat_le row 63) (by_state held (Ok tt) (Err (Busy c))) (Err (NoRow row))

-- The answer to the start of a row: there must be such a controller too.
abbrev pub start_answer : States → ℕ → ℕ → Result (Unit {0}) BenchFault
start_answer states c row = cond (nat_lt c (length states)) (start_on (slice_index_or states c None) c row) (Err (NoController c))

-- What the controllers do after the start of a row.
abbrev pub start_after : States → ℕ → ℕ → States
start_after states c row = by_answer (start_answer states c row) (slice_set states c (Some row)) states

-- The answer to an end on a controller that does this: it must be busy.
abbrev pub end_on : Option ℕ → ℕ → Result (Unit {0}) BenchFault
end_on held c = by_state held (Err (Idle c)) (Ok tt)

-- The answer to an end: there must be such a controller too.
abbrev pub end_answer : States → ℕ → Result (Unit {0}) BenchFault
end_answer states c = cond (nat_lt c (length states)) (end_on (slice_index_or states c None) c) (Err (NoController c))

-- What the controllers do after an end.
abbrev pub end_after : States → ℕ → States
end_after states c = by_answer (end_answer states c) (slice_set states c None) states

-- The answer to the question what a controller does.
abbrev pub state_answer : States → ℕ → Result (Option ℕ) BenchFault
state_answer states c = cond (nat_lt c (length states)) (Ok (slice_index_or states c None)) (Err (NoController c))

-- As many controllers after as before, and each but controller c does what it did.
abbrev pub OthersKept : States → States → ℕ → Type 0
OthersKept before after c =
    (length after ≡ length before) × ((d : ℕ) → (d ≢ c) → state_answer after d ≡ state_answer before d)
