use Rattle.std.proofs.Common.{◌≡◌, rules}
use Rattle.slots.specs.Jumps.{hop_over}
use Rattle.slots.proofs.Jumping.{next_hop}
use Rattle.slots.proofs.slot.Slot.hop.Goals as goal

pub returns-clause-next : goal.returns-clause-next
returns-clause-next c h =
    let is : c.then.result ≡ hop_over c.args.self.now c.args.other.now c.args.divisor = search rules in
    rw is (next_hop c.args.self.now c.args.other.now c.args.divisor h)
