use Rattle.std.proofs.Common.{ℕ, sym, subst, rules}
use borrow.Author.Tests.{tests}
use Rattle.std.specs.Iterator.Runs.{ItemsCountUp}
use Rattle.std.specs.declared.ops.Range.{Range}
use Rattle.std.proofs.iter.runs.Sources.{range_runs}
use Rattle.planner.proofs.Choosing.{TriedAt, chosen}
use Rattle.planner.proofs.FirstMapped.{first_mapped}
use Rattle.planner.proofs.search.Search.choose.Goals as goal

pub returns : goal.returns
returns g c =
    let given = c.args.self.now in
    let level = given.task.now.level in
    let order = g.P.Policy.meaning.order c.args.policy.now level in
    record {
      chosen = rw (sym c.count.ensures.value) (chosen c.count.result order given.placed.now given.task.now
          (rw c.count.ensures.value (g.met.P.Policy.lawful.arranged c.args.policy.now level)) _
          (first_mapped c.count.result (TriedAt order given.placed.now given.task.now)
          (λ p e. subst (λ (x : Range ℕ). ItemsCountUp p x.start x.end) e (range_runs p p.seen))
          (λ a r f k. search (rules, tests)) (λ k r called. search (rules, tests)) _ c.find_map.ensures.runs));
    }
