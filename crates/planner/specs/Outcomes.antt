-- What planning answers, and what it leaves.
use Rattle.std.specs.Prelude.{◌≡◌, ℕ, ◌-◌, ◌≤◌, List, ◌++◌, length, replicate, Ok, Err, Result, ◌≢◌}
use Rattle.policies.specs.Policies.{Means}
use Rattle.tasks.specs.declared.fault.PlanFault.{PlanFault}
use Rattle.tasks.specs.declared.fault.PlanFault.TheVariants.{Size, Counts, Range, NoController}
use Rattle.tasks.specs.declared.task.Task.{Task}
use Rattle.planner.specs.Planning.{Placed, StuckAt, told_of}
use Rattle.planner.specs.Plans.{rows_of}
use Rattle.planner.specs.Rows.{no_row}
use Rattle.planner.specs.Searching.{EachInRange, FirstOut}
use Rattle.planner.specs.declared.plans.Plan.{Plan}
use Rattle.planner.specs.declared.row.Row.{Row}

-- what planning can answer
abbrev pub Answer : Type 0
Answer = Result (Unit {0}) PlanFault

-- there are 1 to 8 controllers, and at most 64 tasks
abbrev pub Sizes : ℕ → List Task → Type 0
Sizes m tasks = (1 ≤ m) × (m ≤ 8) × (length tasks ≤ 64)

-- when planning these tasks for m controllers by the policy p gives an answer
abbrev pub Gives : {P : Type 0} → Means P → ℕ → List Task → P → Answer → Type 0
Gives means m tasks p (Ok _) =
    Sizes m tasks × (means.count p ≡ m) × EachInRange tasks × ((rows : List Row) × Placed means p tasks rows)
Gives means m tasks p (Err Size) = Sizes m tasks → ⊥
Gives means m tasks p (Err Counts) = Sizes m tasks × (means.count p ≢ m)
Gives means m tasks p (Err (Range i)) = Sizes m tasks × (means.count p ≡ m) × FirstOut tasks i
Gives means m tasks p (Err (NoController i)) =
    Sizes m tasks × (means.count p ≡ m) × EachInRange tasks × ((rows : List Row) × StuckAt means m p tasks i rows)

-- the plan is for m controllers, its rows are the tasks as they are placed, and the rest of its table is blank
pub record Filled {P : Type 0} (means : Means P) (m : ℕ) (tasks : List Task) (p : P) (plan : Plan) : Type 0 where
  pub wide : plan.controllers ≡ m
  pub placed : Placed means p tasks (rows_of plan)
  pub rest : plan.table ≡ rows_of plan ++ replicate (64 - length tasks) no_row

-- the plan after that answer: filled anew, or as it was
abbrev pub PlanAfter : {P : Type 0} → Means P → ℕ → List Task → P → Answer → Plan → Plan → Type 0
PlanAfter means m tasks p (Ok _) old new = Filled means m tasks p new
PlanAfter means m tasks p (Err _) old new = new ≡ old

-- the policy after that answer: told of exactly the rows placed
abbrev pub PolicyAfter : {P : Type 0} → Means P → ℕ → List Task → P → Answer → Plan → P → Type 0
PolicyAfter means m tasks p (Ok _) new p' = p' ≡ told_of means p (rows_of new)
PolicyAfter means m tasks p (Err Size) new p' = p' ≡ p
PolicyAfter means m tasks p (Err Counts) new p' = p' ≡ p
PolicyAfter means m tasks p (Err (Range i)) new p' = p' ≡ p
PolicyAfter means m tasks p (Err (NoController i)) new p' =
    (rows : List Row) × StuckAt means m p tasks i rows × (p' ≡ told_of means p rows)
