use Rattle.std.proofs.Common.{◌≡◌, arith, rules}
use Rattle.printout.specs.Texts.{refusal_text}
use Rattle.printout.proofs.ReadBack.{reads_back}
use Rattle.printout.proofs.refusal.numbered_line.Goals as goal

pub returns : goal.returns
returns c =
    let v : c.put_line.new.out ≡ refusal_text c.args.number c.args.layer c.args.place = search rules in
    record { value = v; reads_back = reads_back c.args.number c.args.layer c.args.place (omega arith) (omega arith) c.put_line.new.out v }
