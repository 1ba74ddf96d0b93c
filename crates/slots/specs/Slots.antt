-- When a periodic slot is on, and when two slots meet.
use Rattle.std.specs.Prelude.{ℕ, ◌+◌, ◌-◌, ◌%◌, ◌<◌, ◌≤◌, ◌↔◌}
use Rattle.std.specs.Int.{IsGcd}
use Rattle.slots.specs.declared.slot.Slot.{Slot}

-- The slot with this start, budget and period is on at the instant t.
abbrev pub On : ℕ → ℕ → ℕ → ℕ → Type 0
On start budget period t = (start ≤ t % period) × (t % period < start + budget)

-- The slot occupies the instant.
abbrev pub Occupies : Slot → ℕ → Type 0
Occupies slot = On slot.start slot.budget slot.period

-- Some instant is in both sets of instants.
abbrev pub Meet : (ℕ → Type 0) → (ℕ → Type 0) → Type 0
Meet P Q = (t : ℕ) × P t × Q t

-- How far q lies behind s, round a circle of g instants: (q - s) mod g.
abbrev pub gap : ℕ → ℕ → ℕ → ℕ
gap s q g = (q + (g - s % g)) % g

-- Round a circle of g instants, own ends before other starts, and other before own starts again.
abbrev pub Room : Slot → Slot → ℕ → Type 0
Room own other g = (own.budget ≤ gap own.start other.start g) × (gap own.start other.start g + other.budget ≤ g)

-- The rule of the remainder: two slots never meet exactly when there is room for both round a circle of as many instants as
-- the greatest common divisor of their periods.
abbrev pub NeverMeetRule : Type 0
NeverMeetRule =
    (a b : Slot) (g : ℕ) → IsGcd a.period b.period g → (Meet (Occupies a) (Occupies b) → ⊥) ↔ Room a b g
