-- What holds of every plan, out of its type.
use Rattle.std.proofs.Common.{arith}
use Rattle.std.proofs.lemmas.List.{length-take-le}
use Rattle.planner.specs.Plans.{rows_of}
use Rattle.planner.specs.Standing.{Stands}
use Rattle.planner.specs.declared.plans.Plan.{Plan}

-- every plan stands
pub stands : (plan : Plan) → Stands plan.controllers (rows_of plan)
stands plan = record {
  few = plan.few;
  short = omega (arith, length-take-le plan.count plan.table, plan.short, plan.whole);
  sound = plan.sound;
  there = plan.there;
  apart = plan.apart;
}
