-- How far on a slot must start so as to miss another.
use Rattle.std.specs.Prelude.{ℕ, ◌+◌, ◌-◌, ◌<◌, ◌≤◌, cond, Some, None, Option, nat_lt}
use Rattle.slots.specs.Slots.{On, Occupies, Meet, gap}
use Rattle.slots.specs.declared.slot.Slot.{Slot}

-- With the budget and the period of own, a slot that starts at j meets other.
abbrev pub MeetsFrom : Slot → Slot → ℕ → Type 0
MeetsFrom own other j = Meet (On j own.budget own.period) (Occupies other)

-- The next start from own's at which it does not meet other lies n further on.
pub record ClearAfter (own other : Slot) (n : ℕ) : Type 0 where
  -- it is less than a period away
  pub near : n < own.period
  -- each start that ends within the period and is passed over meets other
  pub passed : (j : ℕ) → own.start ≤ j → j < own.start + n → j + own.budget ≤ own.period → MeetsFrom own other j
  -- the start itself does not, if it ends within the period
  pub clear : own.start + n + own.budget ≤ own.period → MeetsFrom own other (own.start + n) → ⊥

-- What is true of the next start from own's at which it does not meet other: with none, each start meets it.
abbrev pub Next : Slot → Slot → Option ℕ → Type 0
Next own other (Some n) = ClearAfter own other n
Next own other None = (j : ℕ) → j + own.budget ≤ own.period → MeetsFrom own other j

-- How far on own starts where other ends, if it meets it, round a circle of g instants, and 0 if it does not meet it.
abbrev pub past_end : Slot → Slot → ℕ → ℕ
past_end own other g =
    cond (nat_lt (gap own.start other.start g) own.budget) (gap own.start other.start g + other.budget)
    (gap own.start other.start g + other.budget - g)

-- The same, but none where the circle cannot hold both.
abbrev pub hop_over : Slot → Slot → ℕ → Option ℕ
hop_over own other g = cond (nat_lt g (own.budget + other.budget)) None (Some (past_end own other g))
