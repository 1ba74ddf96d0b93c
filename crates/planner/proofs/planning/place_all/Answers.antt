use Rattle.std.proofs.Common.{◌≡◌, ◌<◌, Some, None, Err, length, get_or, take, ap, ◌∙◌, rules, arith}
use Rattle.std.proofs.lemmas.List.{drop-set-lt}
use Rattle.std.proofs.lemmas.Option.{slice_get-get_or}
use Rattle.tasks.specs.declared.fault.PlanFault.TheVariants.{NoController}
use Rattle.planner.proofs.Choosing.{answered}
use Rattle.planner.proofs.Places.{no_task, nth_front}
use Rattle.planner.proofs.Rows.{count_kept, placed_each_sound, step}
use Rattle.planner.proofs.planning.place_all.Goals as goal

pub new-requires-clause-sound : goal.new-requires-clause-sound
new-requires-clause-sound g c =
    placed_each_sound g.P.Policy.meaning c.args.policy.now (take c.loop-i.i c.args.tasks.now) (take c.loop-i.i c.loop-i.table)
    (λ k task e. c.requires.range k task (nth_front c.loop-i.i c.args.tasks.now k task e)) c.loop-i.invariant.0

pub returns-in_err-row-clause-places : goal.returns-in_err-row-clause-places
returns-in_err-row-clause-places g c =
    let p = c.args.policy.now in
    let tasks = c.args.tasks.now in
    let i = c.loop-i.i in
    let (before, told, _) = c.loop-i.invariant in
    let means = g.P.Policy.meaning in
    let same : means.count c.loop-i.policy ≡ means.count p = ap means.count told ∙ count_kept (take i c.loop-i.table) means g.met.P.Policy.lawful p in
    let none : c.choose.result ≡ None = search rules in
    let chosen = answered _ (means.order c.loop-i.policy) c.choose.ensures.chosen c.new.ensures.placed c.new.ensures.task none in
    let stuck : c.from_residual.result ≡ Err (NoController i) = search rules in
    rw stuck (
      record {
        before = before;
        task = get_or tasks i no_task;
        here = slice_get-get_or tasks i no_task c.loop-i-test.true;
        none = λ k l takes. chosen k (omega (arith, same)) takes;
      },
      told,
    )

pub loop-i-preserved : goal.loop-i-preserved
loop-i-preserved g c =
    let tasks = c.args.tasks.now in
    let row = c.in_ok-row.row in
    let table = c.loop-i.table in
    let i = c.loop-i.i in
    let (before, told, rest) = c.loop-i.invariant in
    let some : c.choose.result ≡ Some row = search rules in
    let chosen = answered _ (g.P.Policy.meaning.order c.loop-i.policy) c.choose.ensures.chosen c.new.ensures.placed c.new.ensures.task some in
    let m : i < length table = omega arith in
    let (more, after) = step g.P.Policy.meaning c.args.policy.now tasks table i _ _ row c.loop-i-test.true m before told chosen c.tell.ensures.after in
    (more, after, drop-set-lt (length tasks) table i row c.loop-i-test.true ∙ rest)
