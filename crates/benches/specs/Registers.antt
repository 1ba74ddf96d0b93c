-- What the bytes of a register bench mean.
use Rattle.std.specs.Prelude.{◌≡◌, ℕ, zero, suc, ◌+◌, ◌≤◌, List, map, length, take, drop, Some, None, Ok, Err, Option, Result, slice_index, slice_set}
use Rattle.std.proofs.Common.{arith}
use Rattle.std.proofs.lemmas.List.{length-take, length-map}
use Rattle.tasks.specs.declared.fault.BenchFault.{BenchFault}
use Rattle.benches.specs.Commands.{States, by_answer, start_answer, end_answer}

-- What a controller does by its byte: 0 where it is idle, v where it is busy with row v - 1.
abbrev pub decoded : ℕ → Option ℕ
decoded zero = None
decoded (suc row) = Some row

-- What the controllers do: each byte after byte 0 is a controller's, as far as the eighth.
abbrev pub shown_by : List ℕ → States
shown_by bytes = map decoded (take 8 (drop 1 bytes))

-- The bytes after the start of a row: where it is taken the controller's byte is changed, and no other ever is.
abbrev pub start_bytes : List ℕ → ℕ → ℕ → List ℕ
start_bytes bytes c row = by_answer (start_answer (shown_by bytes) c row) (slice_set bytes (c + 1) (row + 1)) bytes

-- The bytes after an end: where it is taken the controller's byte is changed, and no other ever is.
abbrev pub end_bytes : List ℕ → ℕ → List ℕ
end_bytes bytes c = by_answer (end_answer (shown_by bytes) c) (slice_set bytes (c + 1) 0) bytes

-- What a command with this answer makes of the controller's byte: this byte, where it is taken.
abbrev pub made : Result (Unit {0}) BenchFault → ℕ → Result ℕ BenchFault
made (Ok _) byte = Ok byte
made (Err fault) byte = Err fault

-- What a command answers and what bytes it leaves, by what it made of the controller's byte.
abbrev pub Commanded : List ℕ → ℕ → Result ℕ BenchFault → Result (Unit {0}) BenchFault → List ℕ → Type 0
Commanded before c (Ok byte) result after = (result ≡ Ok tt) × (after ≡ slice_set before (c + 1) byte)
Commanded before c (Err fault) result after = (result ≡ Err fault) × (after ≡ before)

-- A register bench has at most eight controllers.
pub few_shown : (bytes : List ℕ) → length (shown_by bytes) ≤ 8
few_shown bytes = simp (length-map, length-take) (omega arith)

-- What no command changes: which bytes are lent, how many they are, byte 0, and those past the eighth controller's.
pub record Around : Type 0 where
  pub lent : ℕ
  pub size : ℕ
  pub interlock : ℕ
  pub beyond : List ℕ

-- What no command changes, of these bytes.
abbrev pub around : ℕ → List ℕ → Around
around lent bytes = record { lent = lent; size = length bytes; interlock = slice_index bytes 0; beyond = drop 9 bytes }
