use Rattle.planner.proofs.Standing.{stands}
use Rattle.planner.proofs.plans.Plan.rows.Goals as goal

pub returns-clause-stands : goal.returns-clause-stands
returns-clause-stands c = stands c.args.self.now
