use Rattle.std.proofs.Common.{◌≡◌, replicate, None, ap, ◌∙◌, arith}
use Rattle.std.proofs.lemmas.List.{take-replicate}
use Rattle.tasks.specs.Counts.{clamped}
use Rattle.benches.proofs.slate.Slate.new.Goals as goal

pub returns : goal.returns
returns c =
    let e : c.clamp.result ≡ clamped c.args.count = omega (arith, c.clamp.ensures) in
    record { meaning = take-replicate c.clamp.result 8 None (omega arith) ∙ ap (λ n. replicate n None) e }
