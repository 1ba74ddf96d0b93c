-- What a slate means.
use Rattle.std.specs.Prelude.{ℕ, ◌≤◌, length, take, replicate, None}
use Rattle.std.proofs.Common.{arith}
use Rattle.std.proofs.lemmas.List.{length-take}
use Rattle.benches.specs.Commands.{States}
use Rattle.benches.specs.declared.slate.Slate.{Slate}

-- The first places of a slate's table, one for each controller.
abbrev pub held_by : Slate → States
held_by slate = take slate.count slate.table

-- So many idle controllers.
abbrev pub all_idle : ℕ → States
all_idle n = replicate n None

-- A slate has at most eight controllers.
pub few_held : (slate : Slate) → length (held_by slate) ≤ 8
few_held slate = simp length-take (omega (arith, slate.few))
