use Rattle.std.proofs.Common.{◌-◌, rules}
use Rattle.policies.proofs.Placed.{placed}
use Rattle.policies.proofs.count.Count.down.Goals as goal

pub returns : goal.returns
returns c = record { value = placed (λ k. c.args.self.value - 1 - k) c.args.self.value c.args.k _ (search rules) (search rules) }
