use Rattle.std.proofs.Common.{rules, tests, ap, ◌∙◌}
use Rattle.benches.specs.Registers.{shown_by, around}
use Rattle.benches.proofs.Bytes.{end_shown, end_around}
use Rattle.benches.proofs.Commands.{end_others}
use Rattle.benches.proofs.register_bench.RegisterBenchBench.end.Goals as goal

pub returns-clause-bytes : goal.returns-clause-bytes
returns-clause-bytes c = search (rules, tests)

pub returns-clause-after : goal.returns-clause-after
returns-clause-after c = ap shown_by (returns-clause-bytes c) ∙ end_shown c.args.self.now.bytes.now c.args.controller

pub returns-clause-others : goal.returns-clause-others
returns-clause-others c = end_others _ _ c.args.controller (returns-clause-after c)

pub returns-clause-fixed : goal.returns-clause-fixed
returns-clause-fixed c =
    let bytes = c.args.self.now.bytes in
    ap (λ n. around n c.command.new.self.bytes.now) c.command.ensures.same
    ∙ ap (around bytes.ghost_name) (returns-clause-bytes c)
    ∙ end_around bytes.ghost_name bytes.now c.args.controller
