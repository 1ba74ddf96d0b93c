use Rattle.std.proofs.Common.{rules}
use Rattle.policies.proofs.Placed.{placed}
use Rattle.policies.proofs.count.Count.up.Goals as goal

pub returns : goal.returns
returns c = record { value = placed (λ k. k) c.args.self.value c.args.k _ (search rules) (search rules) }
