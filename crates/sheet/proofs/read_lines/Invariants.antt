use Rattle.std.proofs.Common.{◌≡◌}
use Rattle.records.specs.Lists.{kept, lent}
use Rattle.sheet.specs.Walk.{left}
use Rattle.sheet.proofs.Steps.{Sofar}
use Rattle.sheet.proofs.read_lines.Given as goal

abbrev pub invariant-loop-i : goal.invariant-loop-i
invariant-loop-i l =
    Sofar l.bytes (lent l.initial.rows) l.m l.tasks l._i l.reader.line (left l.reader) (kept l.rows) (lent l.rows) l.rows.len
    × (l.rows.places.ghost_name ≡ l.initial.rows.places.ghost_name)
