use Rattle.std.proofs.Common.{arith, ltb-false, ltb-true, leb-false, leb-true}
use Rattle.sheet.proofs.EarlierRows.{last_period_is}
use Rattle.sheet.proofs.rows.last_period.Goals as goal

pub returns-in-len1-up : goal.returns-in-len1-up
returns-in-len1-up c = record { value = last_period_is c.args.rows.now (omega (arith, ltb-true, ltb-false, leb-true, leb-false)) }
