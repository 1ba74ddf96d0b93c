use Rattle.std.proofs.Common.{◌≡◌, ◌*◌, ◌++◌, drop}
use Rattle.printout.proofs.Written.{front}
use Rattle.printout.proofs.line.put_line.Given as goal

-- the digits of the bytes so far are written, and the places after them are as they were
abbrev pub invariant-loop-i : goal.invariant-loop-i
invariant-loop-i l = l.out ≡ front l.bytes l.i ++ drop (2 * l.i) l.initial.out
