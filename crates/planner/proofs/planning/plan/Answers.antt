use Rattle.std.proofs.Common.{ℕ, ◌≡◌, length, take, drop, replicate, ap, Ok, Err, sym, refl, ◌∙◌, subst, rules, arith}
use Rattle.tasks.specs.declared.fault.PlanFault.TheVariants.{Size, Range}
use Rattle.planner.specs.Outcomes.{Sizes}
use Rattle.planner.specs.Rows.{no_row}
use Rattle.planner.specs.Standing.{EachOn}
use Rattle.planner.proofs.Outcomes.{exactly, given}
use Rattle.planner.proofs.Rows.{blank_rest, placed_apart, placed_each_on, placed_each_sound}
use Rattle.planner.proofs.planning.plan.Goals as goal
use Rattle.planner.proofs.planning.plan.Goals.{then-not-contains-via-then-not-contains, then-not-contains-via-else-not-contains+then-tasks-gt64}

pub returns-then-not-contains-clause-answer : goal.returns-then-not-contains-clause-answer
returns-then-not-contains-clause-answer g c =
    let unfit : Sizes c.args.m c.args.tasks.now → ⊥ = λ (low, high, short). elim c.then-not-contains.branch [
      | then-not-contains-via-then-not-contains w ↦ search (rules, low, high)
      | then-not-contains-via-else-not-contains+then-tasks-gt64 w ↦ omega (arith, w.if-tasks-gt64.true)
    ] in
    exactly g.P.Policy.meaning g.met.P.Policy.lawful c.args.m c.args.tasks.now c.args.policy.now (Err Size) unfit

pub returns-in-Some-clause-answer : goal.returns-in-Some-clause-answer
returns-in-Some-clause-answer g c =
    let sizes : Sizes c.args.m c.args.tasks.now = search rules in
    exactly g.P.Policy.meaning g.met.P.Policy.lawful c.args.m c.args.tasks.now c.args.policy.now (Err (Range c.in-Some.row))
    (sizes, sym c.count.ensures.value ∙ c.if-count-m.false, c.in-Some.ensures.first)

pub returns-in_err-place_all-clause-answer : goal.returns-in_err-place_all-clause-answer
returns-in_err-place_all-clause-answer g c =
    let means = g.P.Policy.meaning in
    let law = g.met.P.Policy.lawful in
    let tasks = c.args.tasks.now in
    let p = c.args.policy.now in
    let sizes : Sizes c.args.m tasks = search rules in
    let fault : c.from_residual.result ≡ Err c.in_err-place_all.field-0.0 = search rules in
    rw fault (exactly means law c.args.m tasks p (Err c.in_err-place_all.field-0.0)
    (given means law c.args.m tasks p (Err c.in_err-place_all.field-0.0) c.place_all.new.table c.place_all.new.policy sizes (sym c.count.ensures.value ∙ c.if-count-m.false) c.in_default.ensures.first c.in_err-place_all.ensures.places))

pub invariant_of-plan : goal.invariant_of-plan
invariant_of-plan g c =
    let p = c.args.policy.now in
    let tasks = c.args.tasks.now in
    let rows = take (length tasks) c.place_all.new.table in
    let counts = sym c.count.ensures.value ∙ c.if-count-m.false in
    let (all, _) = c.in_ok-place_all.ensures.places in
    let sizes : Sizes c.args.m tasks = search rules in
    let F : ℕ → Type 0 = λ n. EachOn n rows in
    record {
      whole = c.place_all.auto.table;
      few = sizes.1;
      short = sizes.2;
      sound = placed_each_sound g.P.Policy.meaning p tasks rows c.in_default.ensures.first all;
      there = subst F counts (placed_each_on g.P.Policy.meaning p g.met.P.Policy.lawful tasks rows all);
      apart = placed_apart g.P.Policy.meaning p tasks rows all;
    }

pub returns-clause-answer : goal.returns-clause-answer
returns-clause-answer g c =
    let means = g.P.Policy.meaning in
    let law = g.met.P.Policy.lawful in
    let tasks = c.args.tasks.now in
    let p = c.args.policy.now in
    let sizes : Sizes c.args.m tasks = search rules in
    exactly means law c.args.m tasks p _
    (given means law c.args.m tasks p (Ok tt) _ _ sizes (sym c.count.ensures.value ∙ c.if-count-m.false) c.in_default.ensures.first c.in_ok-place_all.ensures.places)

pub returns-clause-plan : goal.returns-clause-plan
returns-clause-plan g c =
    let n = length c.args.tasks.now in
    let blank : c.default-table.result ≡ no_row = search rules in
    let rest = c.place_all.ensures.rest ∙ ap (λ row. drop n (replicate 64 row)) blank in
    record {
      wide = refl {a = c.args.m};
      placed = c.in_ok-place_all.ensures.places.0;
      rest = blank_rest n c.place_all.new.table rest;
    }
