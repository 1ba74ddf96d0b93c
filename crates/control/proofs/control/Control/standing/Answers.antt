use Rattle.std.proofs.Common.{Ok, sym, refl, ap, ◌∙◌}
use Rattle.control.specs.States.{state_of}
use Rattle.control.proofs.Calling.{carried, loaded_then, not_loaded}
use Rattle.control.proofs.Standings.{stands}
use Rattle.control.proofs.control.Control.standing.Goals as goal

pub returns-in_err-ready : goal.returns-in_err-ready
returns-in_err-ready g c =
    let s = state_of g.B.Bench.meaning c.args.self.now in
    let f = c.in_err-ready.field-0.0 in
    record { answer = carried c.from_residual.result f c.from_residual.ensures.1 ∙ sym (not_loaded s _ f c.in_err-ready.ensures.value) }

pub returns : goal.returns
returns g c =
    let a = c.args.self.now in
    let s = state_of g.B.Bench.meaning a in
    let whole = stands s a.mode refl c.busy_count.result c.busy_count.ensures.value c.lowest_busy.result c.lowest_busy.ensures.value in
    record { answer = ap Ok whole ∙ sym (loaded_then s _ c.in_ok-ready.field-0 c.in_ok-ready.ensures.value) }
