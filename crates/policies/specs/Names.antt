-- Lists of names that hold each controller once.
use Rattle.std.specs.Prelude.{ℕ, ◌<◌, List, length, ◌≢◌, slice_index}
use Rattle.policies.specs.Orders.{by_place}

-- Each of the first n names is below m.
abbrev pub EachBelow : ℕ → ℕ → List ℕ → Type 0
EachBelow m n names = (k : ℕ) → k < n → slice_index names k < m

-- No two of the first n names are the same.
abbrev pub EachApart : ℕ → List ℕ → Type 0
EachApart n names = (j k : ℕ) → j < k → k < n → slice_index names j ≢ slice_index names k

-- The list names each number below its length once.
abbrev pub EachOnce : List ℕ → Type 0
EachOnce list = EachBelow (length list) (length list) list × EachApart (length list) list

-- The first m names, as an order.
abbrev pub named : ℕ → List ℕ → List ℕ
named m names = by_place m (λ k. slice_index names k)
