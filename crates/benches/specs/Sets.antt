-- The busy controllers of a bench.
use Rattle.std.specs.Prelude.{ℕ, ◌+◌, ◌*◌, Bool, [], ◌∷◌, is_some, Some, None, Option, slice_index_or}
use Rattle.benches.specs.Commands.{States}

-- 1 for a busy controller, 0 for an idle one.
abbrev pub one_if_busy : Option ℕ → ℕ
one_if_busy None = 0
one_if_busy (Some _) = 1

-- The busy controllers as a set: bit c is 1 where controller c is busy.
abbrev pub busy_set : States → ℕ
busy_set [] = 0
busy_set (state ∷ states) = one_if_busy state + 2 * busy_set states

-- How many controllers are busy.
abbrev pub busy_count : States → ℕ
busy_count [] = 0
busy_count (state ∷ states) = one_if_busy state + busy_count states

-- A controller's number, where the controllers are numbered from one further down.
abbrev pub one_up : Option ℕ → Option ℕ
one_up None = None
one_up (Some c) = Some (c + 1)

-- Controller 0 where it is busy, and else the lowest of the rest.
abbrev pub lowest_from : Option ℕ → Option ℕ → Option ℕ
lowest_from None rest = one_up rest
lowest_from (Some _) rest = Some 0

-- The lowest controller that is busy, or none.
abbrev pub lowest_busy : States → Option ℕ
lowest_busy [] = None
lowest_busy (state ∷ states) = lowest_from state (lowest_busy states)

-- Whether there is a controller c and it is busy.
abbrev pub busy_at : States → ℕ → Bool
busy_at states c = is_some (slice_index_or states c None)
