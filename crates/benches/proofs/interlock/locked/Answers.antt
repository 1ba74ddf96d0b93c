use Rattle.std.proofs.Common.{◌≡◌, ◌<◌, length, set, rules, tests, ap, ◌∙◌, arith, length-set}
use Rattle.benches.proofs.Released.{put_back}
use Rattle.benches.proofs.interlock.locked.Goals as goal

pub drop-lock-requires : goal.drop-lock-requires
drop-lock-requires g c =
    let there : 0 < length c.args.bytes.now = search (rules, tests) in
    omega (arith, there, c.carry_out.ensures.long, ap length c.engage-lock.ensures.held ∙ length-set _ 0 1)

pub returns-clause-some : goal.returns-clause-some
returns-clause-some g c l =
    let bytes = c.args.bytes.now in
    let lock = c.engage-lock.result in
    let was : set lock.bytes.now 0 lock.before ≡ bytes =
    ap (λ xs. set xs 0 lock.before) c.engage-lock.ensures.held
    ∙ ap (set (set bytes 0 1) 0) c.engage-lock.ensures.before
    ∙ put_back bytes l in
    let left = c.drop-lock.ensures ∙ c.carry_out.ensures.after ∙ ap (λ xs. g.C.Command.after c.args.command xs c.args.controller) was in
    (c.carry_out.ensures.answer ∙ ap (λ xs. g.C.Command.answer c.args.command xs c.args.controller) was, search (rules, left))
