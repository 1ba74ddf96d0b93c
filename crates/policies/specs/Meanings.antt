-- What the four policies mean.
use Rattle.std.specs.Prelude.{◌≡◌, ℕ, ◌+◌, cond, List, nat_lt}
use Rattle.policies.specs.Names.{named}
use Rattle.policies.specs.Orders.{by_level, round_from, upward}
use Rattle.policies.specs.Policies.{Means}
use Rattle.policies.specs.declared.ends.Ends.{Ends}
use Rattle.policies.specs.declared.front.Front.{Front}
use Rattle.policies.specs.declared.listed.Listed.{Listed}
use Rattle.policies.specs.declared.round.Round.{Round}

-- From 0 upward, whatever it is told.
abbrev pub front_means : Means Front
front_means = record { count = λ p. p.count.value; order = λ p level. upward p.count.value; told = λ p level controller. p }

-- From both ends, by the level, whatever it is told.
abbrev pub ends_means : Means Ends
ends_means = record { count = λ p. p.count.value; order = λ p level. by_level level p.count.value; told = λ p level controller. p }

-- Where a round of m controllers begins after it is told of c: after that one. One outside the count is ignored.
abbrev pub next_first : ℕ → ℕ → ℕ → ℕ
next_first m first c = cond (nat_lt c m) (c + 1) first

-- Round from the controller after that last told.
abbrev pub round_means : Means Round
round_means =
    record {
      count = λ p. p.count.value;
      order = λ p level. round_from p.first p.count.value;
      told = λ p level controller. record { count = p.count; first = next_first p.count.value p.first controller };
    }

-- As the list has them, whatever it is told.
abbrev pub listed_means : Means Listed
listed_means =
    record {
      count = λ p. p.roster.count.value;
      order = λ p level. named p.roster.count.value p.roster.names;
      told = λ p level controller. p;
    }

-- A listed policy, as it was and as it is after it took the list: the count is kept, and each level's order is the list.
abbrev pub Follows : Listed → Listed → List ℕ → Type 0
Follows old new list =
    (listed_means.count new ≡ listed_means.count old) × ((level : ℕ) → listed_means.order new level ≡ list)
