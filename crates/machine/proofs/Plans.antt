-- What a plan that stands says of two rows, and of one.
use Rattle.std.proofs.Common.{◌≡◌, ℕ, ◌+◌, ◌<◌, ◌≤◌, List, Some, sym, ⊎_elim, arith}
use Rattle.std.proofs.lemmas.Bool.{cases_lt}
use Rattle.std.specs.List.{slice_get}
use Rattle.tasks.specs.Tasks.{Belongs, budget}
use Rattle.planner.specs.Rows.{start, Occupies, Sound}
use Rattle.planner.specs.Standing.{Stands}
use Rattle.planner.specs.declared.row.Row.{Row as PlanRow}

-- Two rows of different numbers on one controller never occupy the same instant of a mode of both.
pub never_meet
    : {m : ℕ} {rows : List PlanRow} → Stands m rows → (r q : ℕ) (a b : PlanRow) → slice_get rows r ≡ Some a → slice_get rows q ≡ Some b
    → (r ≡ q → ⊥) → a.controller ≡ b.controller → (mode : ℕ) → Belongs a.task mode → Belongs b.task mode
    → (t : ℕ) → Occupies a mode t → Occupies b mode t → ⊥
never_meet st r q a b at_r at_q n on mode a_in b_in t x y =
    ⊎_elim
    (λ (l : r < q). st.apart (record {
      i = r;
      j = q;
      a = a;
      b = b;
      mode = mode;
      before = l;
      at_i = at_r;
      at_j = at_q;
      together = on;
      a_belongs = a_in;
      b_belongs = b_in;
      meet = (t, x, y);
    }))
    (λ (l : q ≤ r). st.apart (record {
      i = q;
      j = r;
      a = b;
      b = a;
      mode = mode;
      before = omega arith;
      at_i = at_q;
      at_j = at_r;
      together = sym on;
      a_belongs = b_in;
      b_belongs = a_in;
      meet = (t, y, x);
    }))
    (cases_lt r q)

-- In each of its modes a row ends within its period.
pub period_room
    : (row : PlanRow) → Sound row → (mode : ℕ) → Belongs row.task mode
    → start row mode + budget row.task mode ≤ row.task.period
period_room row sound mode b = omega (arith, sound.within mode b, sound.range.deadline)
