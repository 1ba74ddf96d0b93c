-- What a plan holds.
use Rattle.std.specs.Prelude.{List, take}
use Rattle.planner.specs.declared.plans.Plan.{Plan}
use Rattle.planner.specs.declared.row.Row.{Row}

-- the rows of a plan, in the order in which they were placed
abbrev pub rows_of : Plan → List Row
rows_of plan = take plan.count plan.table
