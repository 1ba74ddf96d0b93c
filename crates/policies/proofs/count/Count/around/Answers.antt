use Rattle.std.proofs.Common.{◌+◌, ◌%◌, rules}
use Rattle.policies.proofs.Placed.{placed}
use Rattle.policies.proofs.count.Count.around.Goals as goal

pub returns : goal.returns
returns c =
    let count = c.args.self.value in
    record { value = placed (λ k. (c.args.first + k) % count) count c.args.k _ (search rules) (search rules) }
