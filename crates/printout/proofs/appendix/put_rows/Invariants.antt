use Rattle.std.proofs.Common.{◌≡◌, ◌*◌, ◌++◌, take, drop}
use Rattle.std.specs.List.{flat_map}
use Rattle.printout.specs.Texts.{row_text}
use Rattle.printout.proofs.appendix.put_rows.Given as goal

-- the lines of the rows so far are written, and the places after them are as they were
abbrev pub invariant-loop-i : goal.invariant-loop-i
invariant-loop-i l = l.out ≡ flat_map row_text (take l.i l.rows) ++ drop (15 * l.i) l.initial.out
