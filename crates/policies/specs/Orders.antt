-- Orders of controllers.
use Rattle.std.specs.Prelude.{◌≡◌, ℕ, ◌+◌, ◌-◌, ◌%◌, ◌<◌, cond, List, map, length, Some, ◌==◌}
use Rattle.std.specs.List.{range_with_len, slice_get}

-- The order holds the controllers 0 to m - 1, each exactly once.
pub record Arrangement (m : ℕ) (order : List ℕ) : Type 0 where
  -- every name in it is a controller's
  pub within : (k c : ℕ) → slice_get order k ≡ Some c → c < m
  -- no controller is left out
  pub whole : (c : ℕ) → c < m → (k : ℕ) × (slice_get order k ≡ Some c)
  -- none stands twice
  pub once : (j k c : ℕ) → slice_get order j ≡ Some c → slice_get order k ≡ Some c → j ≡ k
  -- it has as many places as there are controllers
  pub long : length order ≡ m

-- The order with f k at each place k below m.
abbrev pub by_place : ℕ → (ℕ → ℕ) → List ℕ
by_place m f = map f (range_with_len 0 m)

-- 0, 1, .., m - 1
abbrev pub upward : ℕ → List ℕ
upward m = by_place m (λ k. k)

-- m - 1, .., 1, 0
abbrev pub downward : ℕ → List ℕ
downward m = by_place m (λ k. m - 1 - k)

-- first, first + 1, .., first + m - 1, each by its remainder: from the one controller round to the one before it
abbrev pub round_from : ℕ → ℕ → List ℕ
round_from first m = by_place m (λ k. (first + k) % m)

-- Downward for everyday tasks, and upward for the others.
abbrev pub by_level : ℕ → ℕ → List ℕ
by_level level m = cond (level == 0) (downward m) (upward m)
