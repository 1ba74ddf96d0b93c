-- What holds of each example, found by the search over instants.
use Rattle.std.proofs.Common.{◌≡◌, ℕ, zero, suc, ◌+◌, ◌<◌, ◌≤◌, false, List, [], ◌∷◌, ◌++◌, length, Some, Ok, refl, sym, ap, ap₂, subst, subst₂, arith}
use Rattle.std.proofs.Math.Nat.{dvd-mul_left, pos_of_dvd_of_pos}
use Rattle.std.proofs.lemmas.Nat.Gcd.{le_from_IsGcd}
use Rattle.std.specs.Int.{◌∣◌}
use Rattle.tasks.specs.Tasks.{budget}
use Rattle.tasks.specs.declared.task.Task.{Task}
use Rattle.policies.specs.Meanings.{front_means}
use Rattle.policies.specs.declared.front.Front.{Front}
use Rattle.planner.specs.Placing.{Takes}
use Rattle.planner.specs.Planning.{Placed, StuckAt}
use Rattle.planner.specs.Standing.{Stands}
use Rattle.planner.specs.declared.row.Row.{Row}
use Rattle.planner.proofs.Unique.{one_way}
use Rattle.machine.specs.Entries.{entry, written}
use Rattle.machine.specs.declared.entry.Call.TheVariants.{Tick}
use Rattle.machine.specs.declared.entry.Entry.{Entry}
use Rattle.machine.specs.declared.entry.Reply.TheVariants.{Ticked}
use Rattle.machine.specs.declared.event.Event.{Event}
use Rattle.machine.specs.declared.event.Event.TheVariants.{Cut, Start, Switch}
use Rattle.machine.proofs.Basics.{none_some}
use Rattle.trials.specs.Rows.{alone, critical, due_by, everyday, row}
use Rattle.trials.specs.Trials.{EachPairFits, Fits, PairFits, StuckOn, sample_tasks, tasks_of}
use Rattle.trials.specs.declared.trial.Stuck.{Stuck}
use Rattle.trials.proofs.ByInstants.{takes, takes_false}
use Rattle.trials.proofs.Built.{Built, none, then_critical, then_everyday}

-- ---- rows that are placed

coprime_periods_1 : Built 1 (alone (everyday 1 4 1) 0 ∷ [])
coprime_periods_1 = then_everyday 1 ([]) (none 1) (alone (everyday 1 4 1) 0) (omega arith) 0 refl refl refl refl refl

pub coprime_periods : Built 1 (alone (everyday 1 4 1) 0 ∷ alone (everyday 2 6 1) 1 ∷ [])
coprime_periods = then_everyday 1 (alone (everyday 1 4 1) 0 ∷ []) coprime_periods_1 (alone (everyday 2 6 1) 1) (omega arith) 0 refl refl refl refl refl

budgets_just_fit_1 : Built 1 (alone (everyday 1 8 2) 0 ∷ [])
budgets_just_fit_1 = then_everyday 1 ([]) (none 1) (alone (everyday 1 8 2) 0) (omega arith) 0 refl refl refl refl refl

pub budgets_just_fit : Built 1 (alone (everyday 1 8 2) 0 ∷ alone (everyday 2 12 2) 2 ∷ [])
budgets_just_fit = then_everyday 1 (alone (everyday 1 8 2) 0 ∷ []) budgets_just_fit_1 (alone (everyday 2 12 2) 2) (omega arith) 0 refl refl refl refl refl

deadline_just_allows_1 : Built 1 (alone (everyday 1 20 4) 0 ∷ [])
deadline_just_allows_1 = then_everyday 1 ([]) (none 1) (alone (everyday 1 20 4) 0) (omega arith) 0 refl refl refl refl refl

pub deadline_just_allows : Built 1 (alone (everyday 1 20 4) 0 ∷ alone (due_by 2 20 7 3) 4 ∷ [])
deadline_just_allows = then_everyday 1 (alone (everyday 1 20 4) 0 ∷ []) deadline_just_allows_1 (alone (due_by 2 20 7 3) 4) (omega arith) 0 refl refl refl refl refl

three_placed_1 : Built 1 (alone (everyday 1 4 1) 0 ∷ [])
three_placed_1 = then_everyday 1 ([]) (none 1) (alone (everyday 1 4 1) 0) (omega arith) 0 refl refl refl refl refl

three_placed_2 : Built 1 (alone (everyday 1 4 1) 0 ∷ alone (everyday 2 6 1) 1 ∷ [])
three_placed_2 = then_everyday 1 (alone (everyday 1 4 1) 0 ∷ []) three_placed_1 (alone (everyday 2 6 1) 1) (omega arith) 0 refl refl refl refl refl

pub three_placed : Built 1 (alone (everyday 1 4 1) 0 ∷ alone (everyday 2 6 1) 1 ∷ alone (everyday 3 12 3) 9 ∷ [])
three_placed = then_everyday 1 (alone (everyday 1 4 1) 0 ∷ alone (everyday 2 6 1) 1 ∷ []) three_placed_2 (alone (everyday 3 12 3) 9) (omega arith) 0 refl refl refl refl refl

both_modes_1 : Built 1 (alone (everyday 1 10 3) 0 ∷ [])
both_modes_1 = then_everyday 1 ([]) (none 1) (alone (everyday 1 10 3) 0) (omega arith) 0 refl refl refl refl refl

both_modes_2 : Built 1 (alone (everyday 1 10 3) 0 ∷ row (critical 2 20 20 (2 ∷ 4 ∷ [])) 0 (3 ∷ 0 ∷ []) ∷ [])
both_modes_2 = then_critical 1 (alone (everyday 1 10 3) 0 ∷ []) both_modes_1 (row (critical 2 20 20 (2 ∷ 4 ∷ [])) 0 (3 ∷ 0 ∷ [])) (omega arith) 0 refl refl refl refl refl

pub both_modes : Built 1 (alone (everyday 1 10 3) 0 ∷ row (critical 2 20 20 (2 ∷ 4 ∷ [])) 0 (3 ∷ 0 ∷ []) ∷ row (critical 3 30 30 (5 ∷ 6 ∷ [])) 0 (5 ∷ 4 ∷ []) ∷ [])
both_modes = then_critical 1 (alone (everyday 1 10 3) 0 ∷ row (critical 2 20 20 (2 ∷ 4 ∷ [])) 0 (3 ∷ 0 ∷ []) ∷ []) both_modes_2 (row (critical 3 30 30 (5 ∷ 6 ∷ [])) 0 (5 ∷ 4 ∷ [])) (omega arith) 0 refl refl refl refl refl

overrun_1 : Built 2 (row (critical 10 10 10 (2 ∷ 4 ∷ [])) 0 (0 ∷ 0 ∷ []) ∷ [])
overrun_1 = then_critical 2 ([]) (none 2) (row (critical 10 10 10 (2 ∷ 4 ∷ [])) 0 (0 ∷ 0 ∷ [])) (omega arith) 0 refl refl refl refl refl

overrun_2 : Built 2 (row (critical 10 10 10 (2 ∷ 4 ∷ [])) 0 (0 ∷ 0 ∷ []) ∷ alone (everyday 11 15 3) 2 ∷ [])
overrun_2 = then_everyday 2 (row (critical 10 10 10 (2 ∷ 4 ∷ [])) 0 (0 ∷ 0 ∷ []) ∷ []) overrun_1 (alone (everyday 11 15 3) 2) (omega arith) 0 refl refl refl refl refl

overrun_3 : Built 2 (row (critical 10 10 10 (2 ∷ 4 ∷ [])) 0 (0 ∷ 0 ∷ []) ∷ alone (everyday 11 15 3) 2 ∷ row (critical 12 20 12 (3 ∷ 5 ∷ [])) 1 (0 ∷ 0 ∷ []) ∷ [])
overrun_3 = then_critical 2 (row (critical 10 10 10 (2 ∷ 4 ∷ [])) 0 (0 ∷ 0 ∷ []) ∷ alone (everyday 11 15 3) 2 ∷ []) overrun_2 (row (critical 12 20 12 (3 ∷ 5 ∷ [])) 1 (0 ∷ 0 ∷ [])) (omega arith) 1 refl refl refl refl refl

pub overrun : Built 2 (row (critical 10 10 10 (2 ∷ 4 ∷ [])) 0 (0 ∷ 0 ∷ []) ∷ alone (everyday 11 15 3) 2 ∷ row (critical 12 20 12 (3 ∷ 5 ∷ [])) 1 (0 ∷ 0 ∷ []) ∷ alone (everyday 13 30 4) 5 ∷ [])
overrun = then_everyday 2 (row (critical 10 10 10 (2 ∷ 4 ∷ [])) 0 (0 ∷ 0 ∷ []) ∷ alone (everyday 11 15 3) 2 ∷ row (critical 12 20 12 (3 ∷ 5 ∷ [])) 1 (0 ∷ 0 ∷ []) ∷ []) overrun_3 (alone (everyday 13 30 4) 5) (omega arith) 0 refl refl refl refl refl

-- ---- tasks that no start is left for

abbrev pub three_rows : List Row
three_rows = alone (everyday 1 4 1) 0 ∷ alone (everyday 2 6 1) 1 ∷ alone (everyday 3 12 3) 9 ∷ []

module _ (rows : List Row) (built : Built 1 rows) (task : Task) (turns : 1 ≤ task.period) (full : takes rows task (Some 0) ≡ false) where
  -- no controller below 1 takes the task
  pub no_controller : (c : ℕ) → c < 1 → Takes c rows task → ⊥
  no_controller zero l = takes_false rows task (turns, built.turns) 0 full
  no_controller (suc c) l = absurd (omega (arith, l))

pub budgets_just_too_long
    : (p : Front) → front_means.count p ≡ 1
    → StuckAt front_means 1 p (everyday 1 8 2 ∷ everyday 2 12 3 ∷ []) 1 (alone (everyday 1 8 2) 0 ∷ [])
budgets_just_too_long p e = record {
  before = budgets_just_fit_1.placed p e;
  task = everyday 2 12 3;
  here = refl;
  none = no_controller (alone (everyday 1 8 2) 0 ∷ []) budgets_just_fit_1 (everyday 2 12 3) (omega arith) refl;
}

pub deadline_just_forbids
    : (p : Front) → front_means.count p ≡ 1
    → StuckAt front_means 1 p (everyday 1 20 4 ∷ due_by 2 20 6 3 ∷ []) 1 (alone (everyday 1 20 4) 0 ∷ [])
deadline_just_forbids p e = record {
  before = deadline_just_allows_1.placed p e;
  task = due_by 2 20 6 3;
  here = refl;
  none = no_controller (alone (everyday 1 20 4) 0 ∷ []) deadline_just_allows_1 (due_by 2 20 6 3) (omega arith) refl;
}

pub sums_look_feasible
    : (p : Front) → front_means.count p ≡ 1
    → StuckAt front_means 1 p (everyday 1 4 1 ∷ everyday 2 6 1 ∷ everyday 3 12 3 ∷ everyday 4 12 3 ∷ []) 3
    (alone (everyday 1 4 1) 0 ∷ alone (everyday 2 6 1) 1 ∷ alone (everyday 3 12 3) 9 ∷ [])
sums_look_feasible p e = record {
  before = three_placed.placed p e;
  task = everyday 4 12 3;
  here = refl;
  none = no_controller (alone (everyday 1 4 1) 0 ∷ alone (everyday 2 6 1) 1 ∷ alone (everyday 3 12 3) 9 ∷ []) three_placed (everyday 4 12 3) (omega arith) refl;
}

-- a number that divides both periods, and that the budgets are together no more than
pair_fits : (a b : Task) (d : ℕ) → 1 ≤ a.period → d ∣ a.period → d ∣ b.period → budget a 0 + budget b 0 ≤ d → PairFits a b
pair_fits a b d turns x y l g gcd = omega (arith, l, le_from_IsGcd a.period b.period g d gcd (pos_of_dvd_of_pos gcd.0 turns) x y)

pub sums_fit : EachPairFits (everyday 1 4 1 ∷ everyday 2 6 1 ∷ everyday 3 12 3 ∷ everyday 4 12 3 ∷ [])
sums_fit =
    let a = everyday 1 4 1 in
    let b = everyday 2 6 1 in
    let c = everyday 3 12 3 in
    let d = everyday 4 12 3 in (
      (
        pair_fits a b 2 (omega arith) (dvd-mul_left 2 2) (dvd-mul_left 2 3) (omega arith),
        (
          pair_fits a c 4 (omega arith) (dvd-mul_left 4 1) (dvd-mul_left 4 3) (omega arith),
          (pair_fits a d 4 (omega arith) (dvd-mul_left 4 1) (dvd-mul_left 4 3) (omega arith), tt),
        ),
      ),
      (
        (
          pair_fits b c 6 (omega arith) (dvd-mul_left 6 1) (dvd-mul_left 6 2) (omega arith),
          (pair_fits b d 6 (omega arith) (dvd-mul_left 6 1) (dvd-mul_left 6 2) (omega arith), tt),
        ),
        (
          (pair_fits c d 12 (omega arith) (dvd-mul_left 12 1) (dvd-mul_left 12 1) (omega arith), tt),
          (tt, tt),
        ),
      ),
    )

-- ---- the plans that run

abbrev pub overrun_rows : List Row
overrun_rows = row (critical 10 10 10 (2 ∷ 4 ∷ [])) 0 (0 ∷ 0 ∷ []) ∷ alone (everyday 11 15 3) 2 ∷ row (critical 12 20 12 (3 ∷ 5 ∷ [])) 1 (0 ∷ 0 ∷ []) ∷ alone (everyday 13 30 4) 5 ∷ []

abbrev ticked : List Event → Entry
ticked events = entry (Tick 5) (Ok (Ticked (written events)))

-- what three ticks of it write: two starts, nothing, and a switch with two cuts and two starts
abbrev pub overrun_ticks : List Entry
overrun_ticks =
    ticked (Start 0 0 ∷ Start 1 2 ∷ []) ∷ ticked [] ∷ ticked (Switch ∷ Cut 0 0 ∷ Cut 1 2 ∷ Start 0 0 ∷ Start 1 2 ∷ []) ∷ []

pub no_tasks_stand : (m : ℕ) → m ≤ 8 → Stands m []
no_tasks_stand m h = record {
  few = h;
  short = omega arith;
  sound = λ i row e. none_some row e;
  there = λ i row e. none_some row e;
  apart = λ clash. none_some clash.a clash.at_i;
}

-- planning places the sample's tasks in no other way
pub sample_rows : (rows : List Row) → Fits 2 rows sample_tasks → rows ≡ overrun_rows
sample_rows rows fit =
    let p : Front = record { count = record { value = 2; ok = (omega arith, omega arith) } } in
    one_way front_means p sample_tasks rows overrun_rows (fit.1 p refl) (overrun.placed p refl)

-- ---- what the examples say, of what equals them

pub fits : (m : ℕ) (rows these : List Row) → rows ≡ these → Built m these → Fits m rows (tasks_of these)
fits m rows these e built = (ap tasks_of e, λ p count. subst (λ xs. Placed front_means p (tasks_of these) xs) (sym e) (built.placed p count))

pub stuck_on
    : (n : ℕ) (stuck : Stuck n) (placed : List Row) (task : Task) → stuck.placed ≡ placed → stuck.task ≡ task → stuck.row ≡ length placed
    → ((p : Front) → front_means.count p ≡ 1 → StuckAt front_means 1 p (tasks_of placed ++ (task ∷ [])) (length placed) placed)
    → StuckOn stuck (tasks_of placed ++ (task ∷ []))
stuck_on n stuck placed task e f g h = (
  ap₂ (λ xs t. tasks_of xs ++ (t ∷ [])) e f,
  λ p count. subst₂ (λ i xs. StuckAt front_means 1 p (tasks_of placed ++ (task ∷ [])) i xs) (sym g) (sym e) (h p count),
)
