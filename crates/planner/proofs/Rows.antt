-- Rows placed one after the other.
use Rattle.std.proofs.Common.{◌≡◌, ℕ, ◌+◌, ◌-◌, ◌<◌, ◌≤◌, ◌⊎◌, List, [], ◌∷◌, ◌++◌, length, get_or, take, drop, set, replicate, Some, sym, refl, ap, ◌∙◌, subst, inl, inr, arith}
use Rattle.std.specs.List.{slice_get}
use Rattle.std.proofs.lemmas.List.{length_push, take-append-le, take_at, take-append-drop, take_more, take_more_set, drop-replicate}
use Rattle.std.proofs.lemmas.Option.{slice_get-get_or, slice_get_within}
use Rattle.slots.specs.Slots.{On, Meet}
use Rattle.policies.specs.Policies.{Lawful, Means}
use Rattle.tasks.specs.Tasks.{Belongs, InRange, budget}
use Rattle.tasks.specs.declared.task.Task.{Task}
use Rattle.planner.specs.Placing.{PlacedAs, PlacedOn}
use Rattle.planner.specs.Planning.{Placed, told_of}
use Rattle.planner.specs.Rows.{Occupies, Sound, no_row, no_start, start}
use Rattle.planner.specs.Searching.{EachInRange}
use Rattle.planner.specs.Standing.{EachOn, EachSound, NoneMeet}
use Rattle.planner.specs.declared.row.Row.{Row}
use Rattle.planner.proofs.Places.{no_task, nth_push, nth_take}

-- a table whose places from n on are as in a blank one
pub blank_rest : (n : ℕ) (table : List Row) → drop n table ≡ drop n (replicate 64 no_row) → table ≡ take n table ++ replicate (64 - n) no_row
blank_rest n table e = sym (take-append-drop n table) ∙ ap (λ rest. take n table ++ rest) (e ∙ drop-replicate n 64 no_row)

told_push
    : {P : Type 0} (rows : List Row) (means : Means P) (p : P) (row : Row)
    → told_of means p (rows ++ row ∷ []) ≡ means.told (told_of means p rows) row.task.level row.controller
told_push [] means p row = refl
told_push (r ∷ rows) means p row = told_push rows means (means.told p r.task.level r.controller) row

-- telling of rows keeps the count
pub count_kept
    : {P : Type 0} (rows : List Row) (means : Means P)
    → Lawful means
    → (p : P) → means.count (told_of means p rows) ≡ means.count p
count_kept [] means law p = refl
count_kept (r ∷ rows) means law p =
    count_kept rows means law (means.told p r.task.level r.controller) ∙ law.kept p r.task.level r.controller

placed_sound : (c : ℕ) (placed : List Row) (task : Task) (row : Row) → InRange task → PlacedOn c placed task row → Sound row
placed_sound c placed task row range on =
    let W : Task → Type 0 = λ t. (mode : ℕ) → Belongs t mode → start row mode + budget t mode ≤ t.deadline in
    let B : Task → Type 0 = λ t. (mode : ℕ) → t.level < mode → start row mode ≡ no_start in
    record {
      range = subst InRange (sym on.holds) range;
      within = subst W (sym on.holds) (λ mode b. (on.starts mode b).0.0);
      blank = subst B (sym on.holds) on.blank;
    }

module _ {P : Type 0} (means : Means P) (p : P) where
  -- how a task is placed beside rows, by the policy told of them
  abbrev pub As : List Row → Task → Row → Type 0
  As placed t r = PlacedAs (means.order (told_of means p placed) t.level) placed t r

  pub placed_more
      : (tasks : List Task) (rows : List Row) (task : Task) (row : Row)
      → Placed means p tasks rows
      → As rows task row
      → Placed means p (tasks ++ task ∷ []) (rows ++ row ∷ [])
  placed_more tasks rows task row before as' = record {
    long = length_push rows row ∙ (ap (λ n. n + 1) before.long ∙ sym (length_push tasks task));
    each = λ i t r e f. go i t r (nth_push tasks task i t e) (nth_push rows row i r f);
  }
    where
      go
          : (i : ℕ) (t : Task) (r : Row)
          → ((i < length tasks) × (slice_get tasks i ≡ Some t)) ⊎ ((i ≡ length tasks) × (task ≡ t))
          → ((i < length rows) × (slice_get rows i ≡ Some r)) ⊎ ((i ≡ length rows) × (row ≡ r))
          → As (take i (rows ++ row ∷ [])) t r
      go i t r (inl (l, e)) (inl (m, f)) =
          let F : List Row → Type 0 = λ placed. As placed t r in
          subst F (sym (take-append-le i rows (row ∷ []) (omega arith))) (before.each i t r e f)
      go i t r (inl (l, e)) (inr (m, f)) = absurd (omega (arith, before.long))
      go i t r (inr (l, e)) (inl (m, f)) = absurd (omega (arith, before.long))
      go i t r (inr (l, e)) (inr (m, f)) =
          let F : List Row → Type 0 = λ placed. As placed t r in
          let G : Task → Type 0 = λ x. As rows x r in
          let K : Row → Type 0 = λ x. As rows task x in
          subst F (sym (take_at rows (row ∷ []) i (sym m))) (subst G e (subst K f as'))

  -- the task of a row that was placed
  placed_at
      : (tasks : List Task) (rows : List Row) (i : ℕ) (row : Row)
      → Placed means p tasks rows
      → slice_get rows i ≡ Some row
      → (task : Task) × (slice_get tasks i ≡ Some task) × As (take i rows) task row
  placed_at tasks rows i row all e =
      let l : i < length tasks = omega (arith, slice_get_within rows i row e, all.long) in
      let at = slice_get-get_or tasks i no_task l in
      (get_or tasks i no_task, at, all.each i (get_or tasks i no_task) row at e)

  -- of rows that were placed, no two meet
  pub placed_apart : (tasks : List Task) (rows : List Row) → Placed means p tasks rows → NoneMeet rows
  placed_apart tasks rows all clash =
      let a = clash.a in
      let b = clash.b in
      let mode = clash.mode in
      let (task, at, as') = placed_at tasks rows clash.j b all clash.at_j in
      let F : Task → Type 0 = λ t. Belongs t mode → Meet (On (start b mode) (budget t mode) t.period) (Occupies a mode) → ⊥ in
      let free : F task = λ belongs meet.
      (as'.on.starts mode belongs).0.1 clash.i a (nth_take clash.j rows clash.i clash.before ∙ clash.at_i) (clash.together, clash.a_belongs, meet) in
      let (t, on_a, on_b) = clash.meet in
      subst F (sym as'.on.holds) free clash.b_belongs (t, on_b, on_a)

  pub placed_each_sound : (tasks : List Task) (rows : List Row) → EachInRange tasks → Placed means p tasks rows → EachSound rows
  placed_each_sound tasks rows range all i row e =
      let (task, at, as') = placed_at tasks rows i row all e in
      placed_sound row.controller (take i rows) task row (range i task at) as'.on

  pub placed_each_on : Lawful means → (tasks : List Task) (rows : List Row) → Placed means p tasks rows → EachOn (means.count p) rows
  placed_each_on law tasks rows all i row e =
      let (task, at, as') = placed_at tasks rows i row all e in
      let (k, name, takes, before) = as'.first in
      let l = (law.arranged (told_of means p (take i rows)) task.level).within k row.controller name in
      omega (arith, count_kept (take i rows) means law p)

  -- one row more in the table
  pub step
      : (tasks : List Task) (table : List Row) (i : ℕ) (q q' : P) (row : Row)
      → i < length tasks
      → i < length table
      → Placed means p (take i tasks) (take i table)
      → q ≡ told_of means p (take i table)
      → PlacedAs (means.order q (get_or tasks i no_task).level) (take i table) (get_or tasks i no_task) row
      → q' ≡ means.told q (get_or tasks i no_task).level row.controller
      → Placed means p (take (i + 1) tasks) (take (i + 1) (set table i row))
      × (q' ≡ told_of means p (take (i + 1) (set table i row)))
  step tasks table i q q' row l m before is as' after =
      let task = get_or tasks i no_task in
      let Q : P → Type 0 = λ x. PlacedAs (means.order x task.level) (take i table) task row in
      let F : List Task → Type 0 = λ ts. Placed means p ts (take i table ++ row ∷ []) in
      let G : List Row → Type 0 = λ rs. Placed means p (take (i + 1) tasks) rs in
      let more = placed_more (take i tasks) (take i table) task row before (subst Q is as') in
      let grown : take (i + 1) (set table i row) ≡ take i table ++ row ∷ [] = take_more_set table i row m in (
        subst G (sym grown) (subst F (sym (take_more tasks i no_task l)) more),
        after
            ∙ (ap (λ x. means.told x task.level row.controller) is
            ∙ (ap (λ t. means.told (told_of means p (take i table)) t.level row.controller) (sym as'.on.holds)
            ∙ (sym (told_push (take i table) means p row) ∙ ap (told_of means p) (sym grown)))),
      )
