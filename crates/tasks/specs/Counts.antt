-- How many controllers there are.
use Rattle.std.specs.Prelude.{ℕ, ◌≤◌, min, max}

-- there are one to eight controllers
abbrev pub Few : ℕ → Type 0
Few m = (1 ≤ m) × (m ≤ 8)

-- the count that a number stands for: 0 becomes 1, and more than 8 becomes 8
abbrev pub clamped : ℕ → ℕ
clamped n = max 1 (min n 8)
