use Rattle.std.proofs.Common.{◌≡◌, ℕ, ◌<◌, ◌≤◌, get_or, arith}
use Rattle.std.specs.List.{range_with_len}
use Rattle.std.proofs.lemmas.List.FromFn.{get_or-range_with_len, get_or-map-range_with_len, length-map-range_with_len}
use Rattle.policies.specs.Names.{named}
use Rattle.policies.specs.Orders.{upward}
use Rattle.policies.specs.Naming.{named_list}
use Rattle.policies.proofs.roster.Roster.plain.Goals as goal

-- the numbers from 0, as many as there are controllers
counted : (m : ℕ) → m ≤ 8 → named m (range_with_len 0 8) ≡ upward m
counted m h = named_list m (range_with_len 0 8) (upward m) (length-map-range_with_len (λ k. k) 0 m) same
  where
    same : (k : ℕ) → k < m → get_or (range_with_len 0 8) k 0 ≡ get_or (upward m) k 0
    same k l = omega (arith, get_or-range_with_len 0 8 k 0 (omega arith), get_or-map-range_with_len (λ k. k) 0 m k k 0 l (omega arith))

pub returns-clause-order : goal.returns-clause-order
returns-clause-order c = counted c.args.count.value c.args.count.ok.1
