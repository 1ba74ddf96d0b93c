use Rattle.std.proofs.Common.{◌≡◌, length, Some, None, Ok, sym, ap, ◌∙◌, arith}
use Rattle.records.specs.Lists.{lent}
use Rattle.tasks.specs.declared.fault.BenchFault.TheVariants.{Busy}
use Rattle.tasks.specs.declared.fault.ControlFault.TheVariants.{Bench, Over, Places}
use Rattle.machine.specs.Machine.{State, passed, tick_answer, tick_events}
use Rattle.control.specs.Calls.{counted}
use Rattle.control.specs.States.{state_of}
use Rattle.control.proofs.Carrying.{acts_next}
use Rattle.control.proofs.Calling.{carried, rewritten, tick_by, tick_over, tick_refused, tick_short, tick_unready, ticked}
use Rattle.control.proofs.control.Control.tick.Goals as goal

pub returns-in_err-ready : goal.returns-in_err-ready
returns-in_err-ready g c =
    let a = c.args.self.now in
    let list = c.args.events.now in
    let f = c.in_err-ready.field-0.0 in
    let (answer, steps, events) = tick_refused g.B.Bench.meaning g.B.Bench.fixed a list f
    (tick_unready (state_of g.B.Bench.meaning a) (length (lent list)) f c.in_err-ready.ensures.value) in
    record { answer = carried c.from_residual.result f c.from_residual.ensures.1 ∙ answer; steps = steps; events = events }

pub returns-then-self-ge-END_OF_TIME : goal.returns-then-self-ge-END_OF_TIME
returns-then-self-ge-END_OF_TIME g c =
    let a = c.args.self.now in
    let list = c.args.events.now in
    let (answer, steps, events) = tick_refused g.B.Bench.meaning g.B.Bench.fixed a list Over
    (tick_over (state_of g.B.Bench.meaning a) (length (lent list)) c.in_ok-ready.field-0 c.in_ok-ready.ensures.value c.if-self-ge-END_OF_TIME.true) in
    record { answer = answer; steps = steps; events = events }

pub returns-then-places-from : goal.returns-then-places-from
returns-then-places-from g c =
    let a = c.args.self.now in
    let list = c.args.events.now in
    let (answer, steps, events) = tick_refused g.B.Bench.meaning g.B.Bench.fixed a list Places
    (tick_short (state_of g.B.Bench.meaning a) (length (lent list)) c.in_ok-ready.field-0 c.in_ok-ready.ensures.value c.if-self-ge-END_OF_TIME.false
    (omega (arith, c.if-places-from.true, c.places.ensures.value, c.count.ensures.value))) in
    record { answer = answer; steps = steps; events = events }

pub returns-in-Some : goal.returns-in-Some
returns-in-Some g c =
    let a = c.args.self.now in
    let list = c.args.events.now in
    let (answer, steps, events) = tick_refused g.B.Bench.meaning g.B.Bench.fixed a list (Bench (Busy c.in-Some.controller))
    (tick_by (state_of g.B.Bench.meaning a) (length (lent list)) c.in_ok-ready.field-0 c.in_ok-ready.ensures.value c.if-self-ge-END_OF_TIME.false
    (omega (arith, c.if-places-from.false, c.places.ensures.value, c.count.ensures.value)) (Some c.in-Some.controller) c.in-Some.ensures.value) in
    record { answer = answer; steps = steps; events = events }

pub overflow_add-self : goal.overflow_add-self
overflow_add-self g c =
    let s = state_of g.B.Bench.meaning c.args.self.now in
    let same = ap (λ (x : State). x.next) c.perform.ensures.did.state ∙ acts_next (tick_events s) s in
    omega (arith, c.if-self-ge-END_OF_TIME.false)

pub returns : goal.returns
returns g c =
    let a = c.args.self.now in
    let s = state_of g.B.Bench.meaning a in
    let list = c.args.events.now in
    let did = c.perform.ensures.did in
    let is = tick_by s (length (lent list)) c.in_ok-ready.field-0 c.in_ok-ready.ensures.value c.if-self-ge-END_OF_TIME.false
    (omega (arith, c.if-places-from.false, c.places.ensures.value, c.count.ensures.value)) None c.in_default.ensures.value in
    let long : c.len.result ≡ length (tick_events s) = omega (arith, c.len.ensures.value, did.wrote.long, c.clear.ensures.empty) in
    record {
      answer = ap Ok long ∙ ap counted (sym is);
      steps = ticked g.B.Bench.meaning g.B.Bench.fixed a _ (length (lent list)) (tick_events s) is (ap passed did.state) did.plan did.fixed;
      events = rewritten list c.clear.new.self c.perform.new.events (tick_answer s (length (lent list))) (tick_events s) is
          c.clear.ensures.empty c.clear.ensures.same c.clear.ensures.lender did.wrote did.lender;
    }
