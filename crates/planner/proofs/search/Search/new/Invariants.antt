use Rattle.std.proofs.Common.{◌≡◌, ℕ, ◌<◌, length, get_or}
use Rattle.std.specs.Int.{IsGcd}
use Rattle.planner.specs.Rows.{no_row}
use Rattle.planner.proofs.search.Search.new.Given as goal

-- the divisors of the rows so far are found
abbrev pub invariant-loop-i : goal.invariant-loop-i
invariant-loop-i l =
    record {
      long : length l.divisors ≡ 64;
      found : (k : ℕ) → k < l.i → IsGcd l.task.period (get_or l.placed k no_row).task.period (get_or l.divisors k 0);
    }
