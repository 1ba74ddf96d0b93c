use Rattle.std.proofs.Common.{◌+◌, ◌*◌, [], ◌∷◌, length, get_or, set, ap, ◌∙◌}
use Rattle.printout.proofs.Written.{put_two, put_end}
use Rattle.printout.proofs.line.put_line.Goals as goal

pub loop-i-preserved : goal.loop-i-preserved
loop-i-preserved c =
    let at = 2 * c.loop-i.i in
    let r = c.print_byte.result in
    ap (λ o. set (set o at (get_or r 0 0)) (at + 1) (get_or r 1 0)) c.loop-i.invariant
    ∙ put_two c.args.out.now c.args.bytes.now c.requires c.loop-i.i (get_or r 0 0) (get_or r 1 0) c.loop-i-test.true (ap (λ ds. get_or ds 0 0 ∷ get_or ds 1 0 ∷ []) c.print_byte.ensures.value)

pub returns : goal.returns
returns c = record {
  after =
      ap (λ o. set o (2 * length c.args.bytes.now) 10) c.loop-i.invariant
      ∙ put_end c.args.out.now c.args.bytes.now c.requires c.loop-i.i c.loop-i-test.false c.loop-i.auto.i-end;
}
