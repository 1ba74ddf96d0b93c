use Rattle.std.proofs.Common.{slice_index_or, rules}
use Rattle.policies.proofs.Placed.{placed}
use Rattle.policies.proofs.roster.Roster.place.Goals as goal

pub returns : goal.returns
returns c =
    let s = c.args.self.now in
    record { value = placed (λ k. slice_index_or s.names k 0) s.count.value c.args.k _ (search rules) (search rules) }
