use Rattle.std.proofs.Common.{◌<◌, length, sym, arith}
use Rattle.benches.proofs.BusySets.{set_more, set_take_lt, or_bit}
use Rattle.benches.proofs.busy.busy_set.Goals as goal
use Rattle.benches.proofs.busy.busy_set.Goals.{then-is_busy, else-is_busy}

pub loop-controller-preserved : goal.loop-controller-preserved
loop-controller-preserved g c =
    let m = g.B.Bench.meaning c.args.bench.now in
    let i = c.loop-controller.controller in
    let small = g.B.Bench.few c.args.bench.now in
    let l : i < length m = omega arith in
    let more = set_more m i l in
    let lt = set_take_lt m i (omega arith) in
    let or = or_bit _ i lt (omega arith) in
    elim c.if-is_busy.branch [
      | then-is_busy w ↦ let was = w.if-is_busy.ensures.value in let is = w.set-is in let bit = simp (sym was) at more in cc
      | else-is_busy w ↦ let was = w.if-is_busy.ensures.value in let bit = simp (sym was) at more in omega (arith, w.set-is, c.loop-controller.invariant)
    ]
