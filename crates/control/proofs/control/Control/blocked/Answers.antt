use Rattle.std.proofs.Common.{ℕ, length, subst, rules}
use borrow.Author.Tests.{tests}
use Rattle.std.specs.Iterator.Runs.{ItemsCountUp}
use Rattle.std.specs.declared.ops.Range.{Range}
use Rattle.std.proofs.iter.runs.Sources.{range_runs}
use Rattle.machine.specs.Machine.{blocked}
use Rattle.control.specs.States.{state_of}
use Rattle.control.proofs.Firsts.{find_below}
use Rattle.control.proofs.control.Control.blocked.Goals as goal

pub returns : goal.returns
returns g c =
    let s = state_of g.B.Bench.meaning c.args.self.now in
    let (r, from, found) = c.find.ensures.runs in
    let counts : ItemsCountUp r 0 (length s.shows) = rw (← c.count.ensures.value) (subst (λ (x : Range ℕ). ItemsCountUp r x.start x.end) from (range_runs r r.seen)) in
    record { value = find_below r (length s.shows) (blocked s) counts (λ a b f k. search (rules, tests)) (λ k b called. search (rules, tests)) _ found }
