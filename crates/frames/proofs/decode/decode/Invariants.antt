use Rattle.std.proofs.Common.{◌≡◌, ℕ, ◌<◌, get_or}
use Rattle.digits.specs.Digits.{byte_at}
use Rattle.frames.proofs.decode.decode.Given as goal

-- the bytes so far are those of the digits
abbrev pub invariant-loop-k : goal.invariant-loop-k
invariant-loop-k l = (j : ℕ) → j < l.k → get_or l.bytes j 0 ≡ byte_at l.digits j
