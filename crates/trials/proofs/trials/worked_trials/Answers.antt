use Rattle.std.proofs.Common.{◌≡◌, List, [], ◌∷◌, replicate, ap, ◌∙◌, arith, rules}
use Rattle.planner.specs.declared.row.Row.{Row}
use Rattle.machine.specs.Machine.{loaded, run}
use Rattle.machine.specs.declared.entry.Call.TheVariants.{Tick}
use Rattle.trials.specs.Rows.{everyday}
use Rattle.trials.proofs.Held as held
use Rattle.trials.proofs.Held.{fits, overrun_rows, stuck_on, three_rows}
use Rattle.trials.proofs.Ticks.{quiet_before, quiet_run}
use Rattle.trials.proofs.trials.worked_trials.Goals as goal

pub returns : goal.returns
returns c =
    record {
      hold = record {
        coprime_periods = fits 1 _ _ (search rules) held.coprime_periods;
        budgets_just_fit = fits 1 _ _ (search rules) held.budgets_just_fit;
        budgets_just_too_long = stuck_on 1 _ _ _ (search rules) (search rules) (search rules) held.budgets_just_too_long;
        deadline_just_allows = fits 1 _ _ (search rules) held.deadline_just_allows;
        deadline_just_forbids = stuck_on 1 _ _ _ (search rules) (search rules) (search rules) held.deadline_just_forbids;
        sums_look_feasible = stuck_on 3 _ three_rows (everyday 4 12 3) (search rules) (search rules) (search rules) held.sums_look_feasible;
        pairs_fit = held.sums_fit;
        both_modes = fits 1 _ _ (search rules) held.both_modes;
        overrun = fits 2 _ _ (search rules) held.overrun;
        overrun_runs = λ rows fit. ap (λ (xs : List Row). run (loaded 2 xs) (replicate 3 (Tick 5))) (held.sample_rows rows fit) ∙ (let ticks : held.overrun_ticks ≡ c.tick.result ∷ c.tick-2.result ∷ c.tick-3.result ∷ [] = search rules in ticks);
        no_tasks_stands = λ m. (λ h. held.no_tasks_stand m (omega (arith, h, c.idle.ensures.controllers)), λ s. omega (arith, s.few, c.idle.ensures.controllers));
        no_tasks_runs = λ n. (λ l. quiet_run n 0 (omega (arith, l, c.idle.ensures.ticks)), λ e. omega (arith, quiet_before n 0 (omega arith) e, c.idle.ensures.ticks));
      };
    }
