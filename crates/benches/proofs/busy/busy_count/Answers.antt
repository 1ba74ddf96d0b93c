use Rattle.std.proofs.Common.{ap, ◌∙◌}
use lib.Count.{ones}
use Rattle.benches.proofs.BusySets.{ones_set}
use Rattle.benches.proofs.busy.busy_count.Goals as goal

pub returns : goal.returns
returns g c = record { value = ap ones c.busy_set.ensures.value ∙ ones_set _ }
