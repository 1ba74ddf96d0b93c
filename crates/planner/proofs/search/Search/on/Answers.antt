use Rattle.std.proofs.Common.{leb, sym, subst, zero-le, arith}
use Rattle.std.proofs.lemmas.Bool.{leb-true, leb-false}
use Rattle.planner.specs.Placing.{Clear, Least}
use Rattle.planner.specs.Searching.{TakenAs}
use Rattle.planner.proofs.Choosing.{placed_here}
use Rattle.planner.proofs.search.Search.on.Goals as goal
use Rattle.planner.proofs.search.Search.on.Goals.{then-belongs+in_ok-critical, else-belongs}

pub returns-in_err-everyday : goal.returns-in_err-everyday
returns-in_err-everyday c =
    record {
      taken = subst (TakenAs c.args.controller c.args.self.now.placed.now c.args.self.now.task.now) (sym c.from_residual.ensures)
          (λ takes. let (s, clear) = takes 0 zero-le in c.in_err-everyday.ensures.least s clear);
    }

pub returns-in_err-critical : goal.returns-in_err-critical
returns-in_err-critical c =
    let belongs = leb-true 1 c.args.self.now.task.now.level (sym c.if-belongs.ensures.value) in
    record {
      taken = subst (TakenAs c.args.controller c.args.self.now.placed.now c.args.self.now.task.now) (sym c.from_residual-in_err-critical.ensures)
          (λ takes. let (s, clear) = takes 1 belongs in c.in_err-critical.ensures.least s clear);
    }

pub returns : goal.returns
returns c =
    let controller = c.args.controller in
    let placed = c.args.self.now.placed.now in
    let task = c.args.self.now.task.now in
    let critical = c.if-belongs.critical in
    record {
      taken = placed_here controller placed task c.in_ok-everyday.everyday critical c.args.self.now.range.level
          c.in_ok-everyday.ensures.least
          (λ h. elim c.if-belongs.branch [
            | then-belongs+in_ok-critical w ↦ subst (Least (Clear controller 1 placed task)) (sym w.critical-is) w.in_ok-critical.ensures.least
            | else-belongs w ↦ absurd (let l = leb-false 1 task.level (sym {b = leb 1 task.level} w.if-belongs.ensures.value) in omega arith)
          ])
          (λ h. elim c.if-belongs.branch [
            | then-belongs+in_ok-critical w ↦ absurd (let l = leb-true 1 task.level (sym {b = leb 1 task.level} w.if-belongs.ensures.value) in omega arith)
            | else-belongs w ↦ w.critical-is
          ]);
    }
