use Rattle.std.proofs.Common.{◌≡◌, sym, refl, unwrap_or, rules}
use Rattle.std.proofs.lemmas.Bool.{leb-true}
use Rattle.tasks.specs.Modes.{number}
use Rattle.tasks.specs.Tasks.{Belongs}
use Rattle.planner.proofs.Pushing.{pushed}
use Rattle.planner.proofs.search.Search.push.Goals as goal

pub returns : goal.returns
returns c =
    let belongs : Belongs c.args.row.now.task (number c.args.mode) = leb-true _ _ (sym c.if-not-belongs.ensures.value) in
    let how : c.unwrap_or_else.result ≡ unwrap_or c.hop.result c.args.self.now.task.now.period = search rules in
    record {
      pushes = rw how (pushed c.args.controller (number c.args.mode) c.args.self.now.task.now c.args.row.now
          c.args.self.now.range c.if-row-controller.false belongs _ _ c.budget.ensures.value refl
          c.start.ensures.value c.budget-2.ensures.value refl _ (c.hop.ensures.next c.requires.divides));
    }
