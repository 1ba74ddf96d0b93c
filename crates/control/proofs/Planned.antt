-- The rows of the loaded plan, as they are read.
use Rattle.std.proofs.Common.{◌≡◌, ℕ, ◌<◌, ◌≤◌, List, length, get_or, Some, None, sym, ap, ◌∙◌}
use Rattle.std.proofs.lemmas.Option.{slice_get-get_or, slice_get_past}
use Rattle.std.specs.List.{slice_get}
use Rattle.planner.specs.Rows.{no_row}
use Rattle.planner.specs.Standing.{Stands}
use Rattle.planner.specs.declared.row.Row.{Row}

module _ (rows xs : List Row) (e : xs ≡ rows) (i : ℕ) where
  -- the row read at i is the plan's row i
  pub row_read : i < length xs → slice_get rows i ≡ Some (get_or xs i no_row)
  row_read l = ap (λ ys. slice_get ys i) (sym e) ∙ slice_get-get_or xs i no_row l

  pub row_past : length xs ≤ i → slice_get rows i ≡ None
  row_past l = ap (λ ys. slice_get ys i) (sym e) ∙ slice_get_past xs i l

  -- and it has a period
  pub period_read : (m : ℕ) → Stands m rows → (d : Row) → i < length xs → 1 ≤ (get_or xs i d).task.period
  period_read m st d l = (st.sound i (get_or xs i d) (ap (λ ys. slice_get ys i) (sym e) ∙ slice_get-get_or xs i d l)).range.period.0
