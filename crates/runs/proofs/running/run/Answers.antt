use Rattle.std.proofs.Common.{◌≡◌, Ok, sym, refl, ap, ◌∙◌, arith}
use Rattle.planner.specs.Plans.{rows_of}
use Rattle.machine.specs.Machine.{loaded}
use Rattle.machine.specs.declared.entry.Call.TheVariants.{Tick}
use Rattle.runs.proofs.Runs.{all_sent, begun, one_more}
use Rattle.runs.proofs.running.run.Goals as goal

pub loop-i-init : goal.loop-i-init
loop-i-init g c =
    let told = c.in_ok-load.ensures in
    let (state, kept) = begun g.B.Bench.meaning c.args.plan.now c.args.control.now c.load.new.self c.in_ok-load.field-0 told.answer told.loads in
    (state, kept, refl, refl, refl)

pub loop-i-preserved : goal.loop-i-preserved
loop-i-preserved g c =
    let inv = c.loop-i.invariant in
    let plan = c.args.plan.now in
    let steps = c.send.ensures.steps in
    let (state, history, rest) = one_more g.B.Bench.meaning g.B.Bench.fixed (loaded plan.controllers (rows_of plan)) c.args.calls.now c.loop-i.journal c.args.journal.now
    c.loop-i.i (Tick 0) c.loop-i.control c.send.new.control c.send.result
    (omega (arith, c.min-count.ensures)) (omega (arith, c.min-count.ensures, c.loop-i.auto.journal)) inv.0 inv.3 inv.4 c.send.ensures.answer steps in
    (state, steps.plan ∙ inv.1, steps.fixed ∙ inv.2, history, rest)

pub returns : goal.returns
returns g c =
    let inv = c.loop-i.invariant in
    let told = c.in_ok-load.ensures in
    let all : c.loop-i.i ≡ c.min-count.result = omega arith in
    let (answer, ran) = all_sent g.B.Bench.meaning g.B.Bench.fixed c.args.plan.now c.args.calls.now c.args.control.now c.load.new.self c.loop-i.control
    c.args.journal.now c.loop-i.journal c.loop-i.i c.in_ok-load.field-0 told.answer (all ∙ c.min-count.ensures) c.loop-i.auto.journal
    inv.0 inv.1 inv.2 told.loads.bench inv.3 inv.4 in
    record { answer = ap Ok (sym all) ∙ answer; ran = ran }
