-- Planning gives one answer.
use Rattle.std.proofs.Common.{◌≡◌, ℕ, ◌<◌, ◌↔◌, List, length, take, Ok, Err, refl, ap, subst, arith}
use Rattle.std.proofs.lemmas.List.{length-take-le}
use Rattle.std.proofs.lemmas.Option.{slice_get_within}
use Rattle.policies.specs.Policies.{Lawful, Means}
use Rattle.tasks.specs.declared.fault.PlanFault.TheVariants.{Size, Counts, Range, NoController}
use Rattle.tasks.specs.declared.task.Task.{Task}
use Rattle.planner.specs.Outcomes.{Answer, Gives, Sizes}
use Rattle.planner.specs.Planning.{Placed, PlacesAll, StuckAt}
use Rattle.planner.specs.Searching.{EachInRange, FirstOut}
use Rattle.planner.specs.declared.row.Row.{Row}
use Rattle.planner.proofs.Places.{nth_take}
use Rattle.planner.proofs.Unique.{neither_below, stuck_not_placed}

out_not_in : (tasks : List Task) (i : ℕ) → FirstOut tasks i → EachInRange tasks → ⊥
out_not_in tasks i x all = x.out (all i x.task x.here)

one_out : (tasks : List Task) (i j : ℕ) → FirstOut tasks i → FirstOut tasks j → i ≡ j
one_out tasks i j x y =
    neither_below i j (λ l. x.out (y.before i l x.task x.here)) (λ l. y.out (x.before j l y.task y.here))

module _ {P : Type 0} (means : Means P) (law : Lawful means) (m : ℕ) (tasks : List Task) (p : P) where
  placed_stuck : means.count p ≡ m → (rows ss : List Row) (i : ℕ) → Placed means p tasks rows → StuckAt means m p tasks i ss → ⊥
  placed_stuck count rows ss i all stuck =
      stuck_not_placed means p law m count tasks tasks i ss rows stuck all
      (slice_get_within tasks i stuck.task stuck.here) (λ j h. refl)

  stuck_before : means.count p ≡ m → (rows ss : List Row) (i j : ℕ) → StuckAt means m p tasks i rows → StuckAt means m p tasks j ss → i < j → ⊥
  stuck_before count rows ss i j x y l =
      let inside = slice_get_within tasks j y.task y.here in
      let front = length-take-le j tasks (omega arith) in
      stuck_not_placed means p law m count tasks (take j tasks) i rows ss x y.before (omega arith)
      (λ k h. nth_take j tasks k (omega arith))

  one_stuck : means.count p ≡ m → (rows ss : List Row) (i j : ℕ) → StuckAt means m p tasks i rows → StuckAt means m p tasks j ss → i ≡ j
  one_stuck count rows ss i j x y = neither_below i j (stuck_before count rows ss i j x y) (stuck_before count ss rows j i y x)

  abbrev Given : Answer → Type 0
  Given = Gives means m tasks p

  one_answer : (a b : Answer) → Given a → Given b → a ≡ b
  one_answer (Ok _) (Ok _) x y = refl
  one_answer (Ok _) (Err Size) x y = absurd (y x.0)
  one_answer (Ok _) (Err Counts) x y = absurd (y.1 x.1)
  one_answer (Ok _) (Err (Range i)) x y = absurd (out_not_in tasks i y.2 x.2)
  one_answer (Ok _) (Err (NoController i)) x y = absurd (placed_stuck x.1 x.3.0 y.3.0 i x.3.1 y.3.1)
  one_answer (Err Size) (Ok _) x y = absurd (x y.0)
  one_answer (Err Size) (Err Size) x y = refl
  one_answer (Err Size) (Err Counts) x y = absurd (x y.0)
  one_answer (Err Size) (Err (Range i)) x y = absurd (x y.0)
  one_answer (Err Size) (Err (NoController i)) x y = absurd (x y.0)
  one_answer (Err Counts) (Ok _) x y = absurd (x.1 y.1)
  one_answer (Err Counts) (Err Size) x y = absurd (y x.0)
  one_answer (Err Counts) (Err Counts) x y = refl
  one_answer (Err Counts) (Err (Range i)) x y = absurd (x.1 y.1)
  one_answer (Err Counts) (Err (NoController i)) x y = absurd (x.1 y.1)
  one_answer (Err (Range j)) (Ok _) x y = absurd (out_not_in tasks j x.2 y.2)
  one_answer (Err (Range j)) (Err Size) x y = absurd (y x.0)
  one_answer (Err (Range j)) (Err Counts) x y = absurd (y.1 x.1)
  one_answer (Err (Range j)) (Err (Range i)) x y = ap (λ n. Err (Range n)) (one_out tasks j i x.2 y.2)
  one_answer (Err (Range j)) (Err (NoController i)) x y = absurd (out_not_in tasks j x.2 y.2)
  one_answer (Err (NoController j)) (Ok _) x y = absurd (placed_stuck x.1 y.3.0 x.3.0 j y.3.1 x.3.1)
  one_answer (Err (NoController j)) (Err Size) x y = absurd (y x.0)
  one_answer (Err (NoController j)) (Err Counts) x y = absurd (y.1 x.1)
  one_answer (Err (NoController j)) (Err (Range i)) x y = absurd (out_not_in tasks i y.2 x.2)
  one_answer (Err (NoController j)) (Err (NoController i)) x y =
      ap (λ n. Err (NoController n)) (one_stuck x.1 x.3.0 y.3.0 j i x.3.1 y.3.1)

  -- the answer given is the only one
  pub exactly : (r : Answer) → Given r → (a : Answer) → (r ≡ a) ↔ Given a
  exactly r given a = ((λ e. subst Given e given), λ other. one_answer r a given other)

  -- what placing the tasks answers is what planning gives, where nothing else stands against it
  pub given
      : (r : Answer) (table : List Row) (q : P)
      → Sizes m tasks
      → means.count p ≡ m
      → EachInRange tasks
      → PlacesAll means p tasks r table q
      → Given r
  given (Ok _) table q sizes count range places = (sizes, count, range, (take (length tasks) table, places.0))
  given (Err (NoController i)) table q sizes count range places =
      let Stuck : ℕ → Type 0 = λ n. StuckAt means n p tasks i (take i table) in
      (sizes, count, range, (take i table, subst Stuck count places.0))
  given (Err Size) table q sizes count range places = absurd places
  given (Err Counts) table q sizes count range places = absurd places
  given (Err (Range i)) table q sizes count range places = absurd places
