use Rattle.quotation.proofs.OneQuote.{only, within}
use Rattle.quotation.proofs.appendix_of.Goals as goal

pub returns : goal.returns
returns c =
    let sheet = c.args.sheet.now in
    let before = c.args.out.now in
    let r = c.read_plan_write.result in
    let next = c.read_plan_write.new.out in
    let q = c.read_plan_write.ensures.quoted in
    record { quoted = q; only = only sheet before r next q; bound = within sheet before r next q c.read_plan_write.ensures.small }
