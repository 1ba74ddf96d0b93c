use Rattle.std.proofs.Common.{ℕ, ◌<◌, List, length, get_or, Some, None, Option, zero-le, rules}
use borrow.Author.Tests.{tests}
use Rattle.std.specs.List.{AllWithin, HoldsAt}
use Rattle.std.specs.Option.{MatchOption}
use Rattle.std.proofs.lemmas.Iterator.{IsFirst-from_position, YieldsList-from_slice}
use Rattle.std.proofs.lemmas.Option.{get_or_from_slice_get, slice_get-get_or, slice_get_within}
use Rattle.tasks.specs.Tasks.{InRange}
use Rattle.tasks.specs.declared.task.Task.{Task}
use Rattle.planner.specs.Searching.{FirstOutIf}
use Rattle.planner.proofs.Places.{no_task}
use Rattle.planner.proofs.planning.first_out.Goals as goal

-- where such a task stands first
found
    : (tasks : List Task) (r : Option ℕ)
    → MatchOption r (AllWithin InRange tasks 0 (length tasks)) (λ i. (i < length tasks) × HoldsAt (λ t. InRange t → ⊥) tasks i × AllWithin InRange tasks 0 i)
    → FirstOutIf tasks r
found tasks None all = λ i task e. rw (get_or_from_slice_get tasks i task task e) at (all i task zero-le (slice_get_within tasks i task e))
found tasks (Some i) (l, out, before) =
    record {
      task = get_or tasks i no_task;
      here = slice_get-get_or tasks i no_task l;
      out = out no_task;
      before = λ k h task e. rw (get_or_from_slice_get tasks k task task e) at (before k task zero-le h);
    }

pub returns : goal.returns
returns c =
    record {
      first = found c.args.tasks.now _ (IsFirst-from_position _ _ _ (λ t. InRange t → ⊥) InRange c.position.ensures.ran (YieldsList-from_slice c.args.tasks.now cc)
          (λ x q k. search (rules, tests)) (λ x q k. search (rules, tests)));
    }
