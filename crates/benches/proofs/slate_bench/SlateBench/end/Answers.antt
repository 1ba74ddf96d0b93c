use Rattle.std.proofs.Common.{rules}
use lib.Seq.{take-set-lt}
use Rattle.benches.proofs.slate_bench.SlateBench.end.Goals as goal

pub returns-clause-after : goal.returns-clause-after
returns-clause-after c = search (rules, take-set-lt)
