-- Which numbers make a slot.
use Rattle.std.specs.Prelude.{ℕ, ◌+◌, ◌≤◌}

-- The slot lasts for an instant at least and ends within its period, and the period is not too long.
abbrev pub InRange : ℕ → ℕ → ℕ → Type 0
InRange start budget period = (1 ≤ budget) × (start + budget ≤ period) × (period ≤ 60000)
