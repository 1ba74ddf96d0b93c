use Rattle.slots.proofs.Rule.{meets_unless, never_meet_rule}
use Rattle.slots.proofs.slot.Slot.meets.Goals as goal

pub returns : goal.returns
returns c =
    let divisor = rw (c.from.ensures, c.from-2.ensures) at c.gcd-divisor.ensures.divisor in
    let both = meets_unless c.args.self.now c.args.other.now c.gcd-divisor.result divisor c.leaves_room.result c.leaves_room.ensures.room in
    record {
      meet = both;
      turned = (λ t. let (i, p, q) = both.0 t in (i, q, p), λ (i, p, q). both.1 (i, q, p));
      rule = never_meet_rule;
    }
