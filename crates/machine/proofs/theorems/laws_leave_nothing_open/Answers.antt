use Rattle.machine.proofs.Unique.{laws_leave_nothing_open}
use Rattle.machine.proofs.theorems.laws_leave_nothing_open.Goals as goal

pub returns : goal.returns
returns c = record { theorem = laws_leave_nothing_open }
