use Rattle.std.proofs.Common.{◌≡◌, length, refl, arith}
use Rattle.policies.specs.Naming.{named_list, once_arranged}
use Rattle.policies.proofs.roster.Roster.from_list.Goals as goal

pub returns : goal.returns
returns c =
    let list = c.args.list.now in
    let long : length list ≡ c.args.count.value = omega arith in
    record {
      value = (
        (once_arranged c.args.count.value list long).0 (c.if-not-each_once.ensures.once.0 tt),
        refl,
        named_list c.args.count.value c.padded.result list long (λ k l. c.padded.ensures.value k (omega arith)),
      );
    }
