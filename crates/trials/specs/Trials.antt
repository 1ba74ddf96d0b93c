-- What holds of the worked examples, in the words of planning and of the control.
use Rattle.std.specs.Prelude.{◌≡◌, ℕ, ◌+◌, ◌≤◌, ◌↔◌, List, [], ◌∷◌, ◌++◌, map, replicate, Ok}
use Rattle.std.specs.Bool.{MatchBool}
use Rattle.std.specs.Int.{IsGcd}
use Rattle.tasks.specs.Tasks.{budget}
use Rattle.tasks.specs.declared.task.Task.{Task}
use Rattle.policies.specs.Meanings.{front_means}
use Rattle.policies.specs.declared.front.Front.{Front}
use Rattle.planner.specs.Planning.{Placed, StuckAt}
use Rattle.planner.specs.Standing.{Stands}
use Rattle.planner.specs.declared.row.Row.{Row}
use Rattle.machine.specs.Entries.{entry, written}
use Rattle.machine.specs.Machine.{loaded, run}
use Rattle.machine.specs.declared.entry.Call.TheVariants.{Tick}
use Rattle.machine.specs.declared.entry.Entry.{Entry}
use Rattle.machine.specs.declared.entry.Reply.TheVariants.{Ticked}
use Rattle.trials.specs.Rows.{critical, due_by, everyday}
use Rattle.trials.specs.declared.trial.Stuck.{Stuck}
use Rattle.trials.specs.declared.trials.Trials.{Trials}

-- the tasks of rows
abbrev pub tasks_of : List Row → List Task
tasks_of = map (λ row. row.task)

-- these are the rows of exactly these tasks, as planning places them on m controllers that are tried from 0 upward
abbrev pub Fits : ℕ → List Row → List Task → Type 0
Fits m rows tasks = (tasks_of rows ≡ tasks) × ((p : Front) → front_means.count p ≡ m → Placed front_means p tasks rows)

-- on one controller planning of exactly these tasks stops at this row, with these rows placed before it
abbrev pub StuckOn : {n : ℕ} → Stuck n → List Task → Type 0
StuckOn stuck tasks =
    (tasks_of stuck.placed ++ (stuck.task ∷ []) ≡ tasks)
    × ((p : Front) → front_means.count p ≡ 1 → StuckAt front_means 1 p tasks stuck.row stuck.placed)

-- the everyday budgets of two tasks are together no more than the greatest common divisor of their periods
abbrev pub PairFits : Task → Task → Type 0
PairFits a b = (g : ℕ) → IsGcd a.period b.period g → budget a 0 + budget b 0 ≤ g

-- so are those of a task and each of these
abbrev pub FitsWithEach : Task → List Task → Type 0
FitsWithEach a [] = Unit {0}
FitsWithEach a (b ∷ tasks) = PairFits a b × FitsWithEach a tasks

-- so are those of each two
abbrev pub EachPairFits : List Task → Type 0
EachPairFits [] = Unit {0}
EachPairFits (a ∷ tasks) = FitsWithEach a tasks × EachPairFits tasks

-- the tasks of which no pair is too long, and which yet do not all fit
abbrev pub four_tasks : List Task
four_tasks = everyday 1 4 1 ∷ everyday 2 6 1 ∷ everyday 3 12 3 ∷ everyday 4 12 3 ∷ []

-- the tasks of the sample sheet
abbrev pub sample_tasks : List Task
sample_tasks = critical 10 10 10 (2 ∷ 4 ∷ []) ∷ everyday 11 15 3 ∷ critical 12 20 12 (3 ∷ 5 ∷ []) ∷ everyday 13 30 4 ∷ []

-- a tick with places for 3 events that does nothing
abbrev pub idle_tick : Entry
idle_tick = entry (Tick 3) (Ok (Ticked (written [])))

-- Each worked example. The rows of a trial are in the call's body, with their starts; tasks and placing leave just these.
pub record TrialsHold (t : Trials) : Type 0 where
  -- 4 and 6 share 2: budgets of 1 go past each other
  pub coprime_periods : Fits 1 t.coprime_periods (everyday 1 4 1 ∷ everyday 2 6 1 ∷ [])
  -- 8 and 12 share 4: budgets of 2 and 2 just fit, and 2 and 3 just do not
  pub budgets_just_fit : Fits 1 t.budgets_just_fit (everyday 1 8 2 ∷ everyday 2 12 2 ∷ [])
  pub budgets_just_too_long : StuckOn t.budgets_just_too_long (everyday 1 8 2 ∷ everyday 2 12 3 ∷ [])
  -- after a budget of 4 the deadline 7 just allows a budget of 3, and the deadline 6 just does not
  pub deadline_just_allows : Fits 1 t.deadline_just_allows (everyday 1 20 4 ∷ due_by 2 20 7 3 ∷ [])
  pub deadline_just_forbids : StuckOn t.deadline_just_forbids (everyday 1 20 4 ∷ due_by 2 20 6 3 ∷ [])
  -- each two of these would fit by themselves, and no start is left for the last
  pub sums_look_feasible : StuckOn t.sums_look_feasible four_tasks
  pub pairs_fit : MatchBool t.pairs_fit (EachPairFits four_tasks) (EachPairFits four_tasks → ⊥)
  -- each critical task has a start in each mode; in the critical mode the everyday task is not in the way
  pub both_modes : Fits 1 t.both_modes (everyday 1 10 3 ∷ critical 2 20 20 (2 ∷ 4 ∷ []) ∷ critical 3 30 30 (5 ∷ 6 ∷ []) ∷ [])
  -- the sample sheet's tasks on two controllers, and three ticks with no report
  pub overrun : Fits 2 t.overrun.rows sample_tasks
  -- the rows that planning makes of these tasks run so
  pub overrun_runs : (rows : List Row) → Fits 2 rows sample_tasks → run (loaded 2 rows) (replicate 3 (Tick 5)) ≡ t.overrun.ticks
  -- a plan with no tasks stands for every number of controllers that there may be, and ticks start nothing, to the end of time
  pub no_tasks_stands : (m : ℕ) → (m ≤ t.no_tasks.controllers) ↔ Stands m []
  pub no_tasks_runs : (n : ℕ) → (n ≤ t.no_tasks.ticks) ↔ (run (loaded 1 []) (replicate n (Tick 3)) ≡ replicate n idle_tick)
