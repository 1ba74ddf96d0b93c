use Rattle.std.proofs.Common.{arith}
use Rattle.std.proofs.lemmas.List.{take_more}
use Rattle.printout.proofs.Parts.{rows_more}
use Rattle.printout.proofs.appendix.put_rows.Goals as goal

pub loop-i-preserved : goal.loop-i-preserved
loop-i-preserved c =
    rows_more c.args.out.now c.args.rows.now c.requires c.loop-i.i _ c.loop-i.out c.put_row.new.out (omega arith) c.loop-i.auto.out
    (take_more c.args.rows.now c.loop-i.i _ c.loop-i-test.true) c.loop-i.invariant c.put_row.ensures.after
