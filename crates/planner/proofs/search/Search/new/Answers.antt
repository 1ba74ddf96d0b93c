use Rattle.std.proofs.Common.{◌<◌, ◌≢◌, length, arith, length-set, get_or-set_other, get_or-set_same, below_more}
use Rattle.std.proofs.lemmas.Option.{get_or_from_slice_get, slice_get_within}
use Rattle.planner.specs.Rows.{no_row}
use Rattle.planner.proofs.search.Search.new.Goals as goal

pub loop-i-preserved : goal.loop-i-preserved
loop-i-preserved c =
    let divisor = rw (c.from.ensures, c.from-in-loop-i.ensures) at c.gcd.ensures.divisor in
    let inside : c.loop-i.i < length c.loop-i.divisors = omega arith in
    record {
      long = simp length-set c.loop-i.invariant.long;
      found = below_more _ _
          (λ k h. let other : k ≢ c.loop-i.i = omega arith in rw get_or-set_other (c.loop-i.invariant.found k h))
          (rw get_or-set_same divisor);
    }

pub invariant_of-result-clause-divide : goal.invariant_of-result-clause-divide
invariant_of-result-clause-divide c i row e =
    let inside = slice_get_within c.args.placed.now i row e in
    rw (get_or_from_slice_get c.args.placed.now i row no_row e) at (c.loop-i.invariant.found i (omega arith))
