use Rattle.std.proofs.Common.{◌≡◌, rules, true, false, cond, eqb, Ok, Err, Result, sym, refl, ap, ◌∙◌}
use Rattle.tasks.specs.declared.mode.Mode.TheVariants.{Critical}
use Rattle.tasks.specs.declared.fault.ControlFault.{ControlFault}
use Rattle.tasks.specs.declared.fault.ControlFault.TheVariants.{Busy, Everyday}
use Rattle.machine.specs.Machine.{answered, settle, some_busy}
use Rattle.machine.specs.declared.entry.Reply.TheVariants.{Done}
use Rattle.machine.specs.declared.entry.Call.TheVariants.{Return}
use Rattle.control.specs.States.{state_of}
use Rattle.control.proofs.Calling.{carried, not_loaded, refused}
use Rattle.control.proofs.Standings.{busy_told, return_by}
use Rattle.control.proofs.control.Control.return_to_everyday.Goals as goal

pub returns-in_err-ready : goal.returns-in_err-ready
returns-in_err-ready g c =
    let a = c.args.self.now in
    let s = state_of g.B.Bench.meaning a in
    let f = c.in_err-ready.field-0.0 in
    let is = not_loaded s (cond (eqb s.mode 0) (Err Everyday) (cond (some_busy s) (Err Busy) (Ok tt))) f c.in_err-ready.ensures.value in
    record {
      answer = carried c.from_residual.result f c.from_residual.ensures.1 ∙ sym is;
      steps = refused g.B.Bench.meaning g.B.Bench.fixed a a Return f (ap (answered (λ _. Done)) is) refl refl refl;
    }

pub returns-then-is_some : goal.returns-then-is_some
returns-then-is_some g c =
    let a = c.args.self.now in
    let s = state_of g.B.Bench.meaning a in
    let critical : a.mode ≡ Critical = search rules in
    let is = return_by s c.in_ok-ready.field-0 c.in_ok-ready.ensures.value a.mode refl critical true
    (busy_told s c.lowest_busy.result true c.lowest_busy.ensures.value (sym c.is_some.ensures ∙ c.if-is_some.true)) in
    record { answer = sym is; steps = refused g.B.Bench.meaning g.B.Bench.fixed a a Return Busy (ap (answered (λ _. Done)) is) refl refl refl }

pub returns : goal.returns
returns g c =
    let a = c.args.self.now in
    let s = state_of g.B.Bench.meaning a in
    let critical : a.mode ≡ Critical = search rules in
    let is = return_by s c.in_ok-ready.field-0 c.in_ok-ready.ensures.value a.mode refl critical false
    (busy_told s c.lowest_busy.result false c.lowest_busy.ensures.value (sym c.is_some.ensures ∙ c.if-is_some.false)) in
    record {
      answer = sym is;
      steps = record { state = sym (ap (λ (r : Result (Unit {0}) ControlFault). settle s Return (answered (λ _. Done) r)) is); plan = refl; fixed = refl };
    }
