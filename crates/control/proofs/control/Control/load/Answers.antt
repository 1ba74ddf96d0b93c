use Rattle.std.proofs.Common.{◌≡◌, true, false, is_some, sym, refl, ap, ◌∙◌}
use Rattle.tasks.specs.declared.fault.ControlFault.TheVariants.{Busy, Counts, Loaded}
use Rattle.planner.specs.Plans.{rows_of}
use Rattle.machine.specs.Machine.{some_busy}
use Rattle.control.specs.States.{state_of}
use Rattle.control.proofs.BusyOnes.{lowest_is}
use Rattle.control.proofs.Loads.{freshened, load_again, load_by, load_other, taken, unloaded}
use Rattle.control.proofs.control.Control.load.Goals as goal

pub returns-then-controllers-ne0 : goal.returns-then-controllers-ne0
returns-then-controllers-ne0 g c =
    let a = c.args.self.now in
    let e = load_again (state_of g.B.Bench.meaning a) c.args.plan.now.controllers (λ z. c.if-controllers-ne0.true (c.controllers.ensures.value ∙ z)) in
    record { answer = sym e; loads = unloaded g.B.Bench.meaning a a c.args.plan.now Loaded e }

pub returns-then-m-count : goal.returns-then-m-count
returns-then-m-count g c =
    let a = c.args.self.now in
    let e = load_other (state_of g.B.Bench.meaning a) c.args.plan.now.controllers (sym c.controllers.ensures.value ∙ c.if-controllers-ne0.false)
    (λ z. c.if-m-eq0.false (c.controllers-m.ensures.value ∙ z))
    (λ z. c.if-m-count.true (c.controllers-m.ensures.value ∙ z ∙ sym c.count.ensures.value)) in
    record { answer = sym e; loads = unloaded g.B.Bench.meaning a a c.args.plan.now Counts e }

pub returns-then-is_some : goal.returns-then-is_some
returns-then-is_some g c =
    let a = c.args.self.now in
    let s = state_of g.B.Bench.meaning a in
    let busy : some_busy s ≡ true = ap is_some (sym (lowest_is s.shows)) ∙ ap is_some (sym c.lowest_busy.ensures.value) ∙ sym c.is_some.ensures ∙ c.if-is_some.true in
    let e = load_by s c.args.plan.now.controllers (sym c.controllers.ensures.value ∙ c.if-controllers-ne0.false)
    (λ z. c.if-m-eq0.false (c.controllers-m.ensures.value ∙ z)) (sym c.controllers-m.ensures.value ∙ c.if-m-count.false ∙ c.count.ensures.value) true busy in
    record { answer = sym e; loads = unloaded g.B.Bench.meaning a a c.args.plan.now Busy e }

pub returns : goal.returns
returns g c =
    let a = c.args.self.now in
    let s = state_of g.B.Bench.meaning a in
    let idle : some_busy s ≡ false = ap is_some (sym (lowest_is s.shows)) ∙ ap is_some (sym c.lowest_busy.ensures.value) ∙ sym c.is_some.ensures ∙ c.if-is_some.false in
    let e = load_by s c.args.plan.now.controllers (sym c.controllers.ensures.value ∙ c.if-controllers-ne0.false)
    (λ z. c.if-m-eq0.false (c.controllers-m.ensures.value ∙ z)) (sym c.controllers-m.ensures.value ∙ c.if-m-count.false ∙ c.count.ensures.value) false idle in
    let begun = freshened c.args.plan.now.controllers (rows_of c.args.plan.now) s.shows c.new-self.ensures.all c.new-self-2.ensures.all in
    record { answer = sym e; loads = taken g.B.Bench.meaning a _ c.args.plan.now e begun refl refl }
