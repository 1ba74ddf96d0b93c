-- How far on a row pushes the start of a task, by how far on the slot of the one must start so as to miss that of the other.
use Rattle.std.proofs.Common.{◌≡◌, ℕ, Some, None, Option, unwrap_or, arith}
use Rattle.slots.specs.Jumps.{Next}
use Rattle.slots.specs.declared.slot.Slot.{Slot}
use Rattle.slots.proofs.Jumping.{clear_here}
use Rattle.tasks.specs.Tasks.{Belongs, InRange, budget}
use Rattle.tasks.specs.declared.task.Task.{Task}
use Rattle.planner.specs.Rows.{start}
use Rattle.planner.specs.Searching.{Pushes}
use Rattle.planner.specs.declared.row.Row.{Row}

module _ (c mode : ℕ) (task : Task) (row : Row) (range : InRange task) (there : row.controller ≡ c) (belongs : Belongs row.task mode)
    (own other : Slot) (own_budget : own.budget ≡ budget task mode) (own_period : own.period ≡ task.period)
    (begin : other.start ≡ start row mode) (other_budget : other.budget ≡ budget row.task mode) (other_period : other.period ≡ row.task.period) where
  -- with no such start a whole period
  pub pushed : (next : Option ℕ) → Next own other next → Pushes c mode task own.start row (unwrap_or next task.period)
  pushed (Some n) h =
      record {
        near = omega (arith, h.near, range.period);
        passed = λ j a b f. (there, belongs, simp (own_budget, own_period, begin, other_budget, other_period) at (h.passed j a b (omega (arith, range.deadline))));
        clear = λ z (_, _, m). clear_here h z (simp (own_budget, own_period, begin, other_budget, other_period) m);
      }
  pushed None h =
      record {
        near = range.period.1;
        passed = λ j a b f. (there, belongs, simp (own_budget, own_period, begin, other_budget, other_period) at (h j (omega (arith, range.deadline))));
        clear = λ z. absurd (omega (arith, range.period));
      }
