use Rattle.std.proofs.Common.{Option, sym, ap, arith}
use Rattle.std.proofs.lemmas.Bool.{ltb-false}
use Rattle.tasks.specs.Modes.{number}
use Rattle.planner.specs.Plans.{rows_of}
use Rattle.planner.specs.declared.row.Row.{Row}
use Rattle.machine.specs.Machine.{budget_at}
use Rattle.control.proofs.Planned.{row_past}
use Rattle.control.proofs.control.Control.budget.Goals as goal

pub returns-in-None : goal.returns-in-None
returns-in-None g c =
    let past = row_past (rows_of c.args.self.now.plan) c.rows.result.now c.rows.ensures.value c.args.row (omega (arith, c.from.ensures, ltb-false c.from.result _ (sym c.in-None.ensures.lookup.0))) in
    record { value = ap (λ (o : Option Row). budget_at o (number c.args.self.now.mode)) (sym past) }
