use Rattle.std.proofs.Common.{◌+◌, ◌<◌, length, get_or, Ok, sym, ap, ◌∙◌, arith}
use Rattle.benches.specs.Registers.{shown_by, decoded}
use Rattle.benches.proofs.Commands.{state_is}
use Rattle.benches.proofs.Bytes.{shown_at}
use Rattle.benches.proofs.register_bench.RegisterBenchBench.state.Goals as goal

pub returns : goal.returns
returns c =
    let bytes = c.args.self.now.bytes.now in
    let inside : c.args.controller < length (shown_by bytes) = omega (arith, ap (λ xs. length (shown_by xs)) c.bytes.ensures.value) in
    let place = ap (λ k. decoded (get_or bytes (k + 1) 0)) c.from.ensures in
    let is = c.decoded.ensures.value ∙ ap (λ xs. decoded (get_or xs (c.from.result + 1) 0)) c.bytes-2.ensures.value ∙ place ∙ sym (shown_at bytes _ inside) in
    record { answer = ap Ok is ∙ state_is (shown_by bytes) _ inside }
