use Rattle.std.proofs.Common.{min, Err, ap, ◌∙◌, arith}
use Rattle.std.proofs.lemmas.Result.{err_from_is_err_and}
use Rattle.control.specs.States.{state_of}
use Rattle.runs.proofs.Ticking.{left, small, ticked, unticked}
use Rattle.runs.proofs.sending.tick.Goals as goal

pub overflow_cast-result : goal.overflow_cast-result
overflow_cast-result g c =
    let a = c.args.control.now in
    let few = g.B.Bench.few a.bench in
    let told = c.in_ok-count.ensures in
    let part = c.min-lent.ensures ∙ ap (λ n. min n 17) c.from.ensures in
    omega (arith, small (state_of g.B.Bench.meaning a) few c.args.places c.min-lent.result part c.in_ok-count.count told.answer c.tick_into.new.events told.written c.tick_into.auto.events)

pub returns-in_err-count : goal.returns-in_err-count
returns-in_err-count g c =
    let a = c.args.control.now in
    let s = state_of g.B.Bench.meaning a in
    let few = g.B.Bench.few a.bench in
    let told = c.in_err-count.ensures in
    let part = c.min-lent.ensures ∙ ap (λ n. min n 17) c.from.ensures in
    let (refusal, is, same) = err_from_is_err_and c.from_residual.result c.from_residual.ensures.1 in
    record {
      answer = is ∙ ap Err same ∙ unticked s few c.args.places c.min-lent.result part c.in_err-count.field-0.0 told.answer;
      steps = record {
        state = told.steps.state ∙ left s few c.args.places c.min-lent.result part;
        plan = told.steps.plan;
        fixed = told.steps.fixed;
      };
    }

pub returns : goal.returns
returns g c =
    let a = c.args.control.now in
    let s = state_of g.B.Bench.meaning a in
    let few = g.B.Bench.few a.bench in
    let told = c.in_ok-count.ensures in
    let part = c.min-lent.ensures ∙ ap (λ n. min n 17) c.from.ensures in
    record {
      answer = ticked s few c.args.places c.min-lent.result part c.in_ok-count.count told.answer c.tick_into.new.events told.written c.tick_into.auto.events;
      steps = record {
        state = told.steps.state ∙ left s few c.args.places c.min-lent.result part;
        plan = told.steps.plan;
        fixed = told.steps.fixed;
      };
    }
