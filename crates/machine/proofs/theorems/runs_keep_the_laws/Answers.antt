use Rattle.machine.proofs.Runs.{every_run_keeps_the_laws}
use Rattle.machine.proofs.theorems.runs_keep_the_laws.Goals as goal

pub returns : goal.returns
returns c = record { theorem = every_run_keeps_the_laws }
