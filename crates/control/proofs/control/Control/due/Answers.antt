use Rattle.std.proofs.Common.{Bool, Iter, Option, subst, sym, ap, ◌∙◌, rules}
use borrow.Author.Tests.{tests}
use Rattle.std.specs.Iterator.Runs.{ItemsMapTo}
use Rattle.std.proofs.iter.runs.Sources.{iter_runs}
use Rattle.std.proofs.lemmas.Iterator.{YieldsList-from_slice}
use Rattle.std.proofs.lemmas.Iterator.Adapters.{serves_from_places}
use Rattle.tasks.specs.Modes.{number}
use Rattle.planner.specs.Rows.{no_row}
use Rattle.planner.specs.declared.row.Row.{Row}
use Rattle.machine.specs.Machine.{due_at, due_in}
use Rattle.control.proofs.Firsts.{position_is, same_number}
use Rattle.control.proofs.Planned.{period_read}
use Rattle.control.proofs.control.Control.due.Goals as goal

pub position-requires-clause-callable : goal.position-requires-clause-callable
position-requires-clause-callable g c =
    let rows = c.rows.result.now in
    serves_from_places (YieldsList-from_slice rows c.iter.ensures.rest) (λ x q k. search (rules, tests))
    (λ x k l e.
    let period = rw (sym e) at (period_read _ rows c.rows.ensures.value k _ c.rows.ensures.stands x.now l) in search (rules, tests, period))

pub returns : goal.returns
returns g c =
    let rows = c.rows.result.now in
    let (r, from, found) = c.position.ensures.runs in
    let reads : ItemsMapTo r (λ y. y.now) rows =
    rw (← c.iter.ensures.rest) (subst (λ (x : Iter Row). ItemsMapTo r (λ y. y.now) x.rest.now) from (iter_runs r r.seen)) in
    let test : Option Row → Bool = λ o. due_at o (number c.args.mode) c.args.elapsed c.args.controller in
    let first = position_is rows no_row test r reads (λ a b f k. search (rules, tests)) (λ y b called. search (rules, tests)) _ found in
    record {
      value = same_number c.position.result c.map.result _ c.map.ensures.cases (λ x y e. search (rules, tests))
          ∙ (first ∙ ap (λ xs. due_in xs (number c.args.mode) c.args.elapsed c.args.controller) c.rows.ensures.value);
    }
