-- There is one way to place tasks.
use Rattle.std.proofs.Common.{◌≡◌, ℕ, zero, suc, ◌<◌, ◌≤◌, List, length, get_or, take, Some, sym, refl, ap, ◌∙◌, subst, add-one, arith}
use native.Mathlib.Decide.{dec_le}
use Rattle.std.specs.List.{slice_get}
use Rattle.std.proofs.lemmas.List.{take_more_same, take_all, length-take-le}
use Rattle.std.proofs.lemmas.Option.{slice_get-get_or, slice_get_within}
use Rattle.policies.specs.Policies.{Lawful, Means}
use Rattle.tasks.specs.declared.task.Task.{Task}
use Rattle.planner.specs.Placing.{Clear, FirstIn, Least, PlacedAs, PlacedOn, Takes}
use Rattle.planner.specs.Planning.{Placed, StuckAt, told_of}
use Rattle.planner.specs.declared.row.Row.{Row}
use Rattle.planner.specs.Rows.{no_row}
use Rattle.planner.proofs.Places.{no_task, nth_take}
use Rattle.planner.proofs.Rows.{As, placed_each_on}

-- two numbers of which neither is below the other
pub neither_below : (s t : ℕ) → (s < t → ⊥) → (t < s → ⊥) → s ≡ t
neither_below s t a b = go (dec_le s t) (dec_le t s)
  where
    go : Dec (s ≤ t) → Dec (t ≤ s) → s ≡ t
    go (yes h) (yes k) = omega arith
    go (yes h) (no k) = absurd (a (omega arith))
    go (no h) k = absurd (b (omega arith))

least_unique : (P : ℕ → Type 0) (s t : ℕ) → Least P s → Least P t → s ≡ t
least_unique P s t (ps, s_least) (pt, t_least) = neither_below s t (λ l. t_least s l ps) (λ l. s_least t l pt)

first_unique : (order : List ℕ) (P : ℕ → Type 0) (c d : ℕ) → FirstIn order P c → FirstIn order P d → c ≡ d
first_unique order P c d (k, at_k, pc, before_k) (l, at_l, pd, before_l) =
    let same : k ≡ l = neither_below k l (λ h. before_l k c h at_k pc) (λ h. before_k l d h at_l pd) in
    let F : ℕ → Type 0 = λ n. slice_get order n ≡ Some c in
    let there = subst F same at_k in
    cc at_l

abbrev row_of : Task → ℕ → ℕ → ℕ → Row
row_of task c everyday critical = record { task = task; controller = c; starts = record { everyday = everyday; critical = critical } }

same_row
    : (a b : Row)
    → a.task ≡ b.task
    → a.controller ≡ b.controller
    → a.starts.everyday ≡ b.starts.everyday → a.starts.critical ≡ b.starts.critical → a ≡ b
same_row a b t c e k =
    ap (λ x. row_of x a.controller a.starts.everyday a.starts.critical) t
    ∙ (ap (λ x. row_of b.task x a.starts.everyday a.starts.critical) c
    ∙ (ap (λ x. row_of b.task b.controller x a.starts.critical) e
    ∙ ap (λ x. row_of b.task b.controller b.starts.everyday x) k))

on_unique : (c : ℕ) (placed : List Row) (task : Task) (a b : Row) → PlacedOn c placed task a → PlacedOn c placed task b → a ≡ b
on_unique c placed task a b x y =
    same_row a b (x.holds ∙ sym y.holds) (x.there ∙ sym y.there)
    (least_unique (Clear c 0 placed task) _ _ (x.starts 0 (omega arith)) (y.starts 0 (omega arith)))
    (critical (dec_le 1 task.level))
  where
    critical : Dec (1 ≤ task.level) → a.starts.critical ≡ b.starts.critical
    critical (yes h) = least_unique (Clear c 1 placed task) _ _ (x.starts 1 h) (y.starts 1 h)
    critical (no h) = x.blank 1 (omega arith) ∙ sym (y.blank 1 (omega arith))

as_unique
    : (order : List ℕ) (placed : List Row) (task : Task) (a b : Row)
    → PlacedAs order placed task a → PlacedAs order placed task b → a ≡ b
as_unique order placed task a b x y =
    let same = first_unique order (λ c. Takes c placed task) a.controller b.controller x.first y.first in
    let F : ℕ → Type 0 = λ c. PlacedOn c placed task a in
    on_unique b.controller placed task a b (subst F same x.on) y.on

module _ {P : Type 0} (means : Means P) (p : P) where
  -- rows placed for the same tasks are the same
  agree
      : (i : ℕ) (ts us : List Task) (rs ss : List Row)
      → Placed means p ts rs
      → Placed means p us ss
      → i ≤ length ts
      → i ≤ length us
      → ((j : ℕ) → j < i → slice_get ts j ≡ slice_get us j)
      → take i rs ≡ take i ss
  agree zero ts us rs ss x y l m same = refl
  agree (suc i) ts us rs ss x y l m same =
      let before = agree i ts us rs ss x y (omega arith) (omega arith) (λ j h. same j (omega arith)) in
      let in_r : i < length rs = omega (arith, x.long) in
      let in_s : i < length ss = omega (arith, y.long) in
      let t = get_or ts i no_task in
      let at_t : slice_get ts i ≡ Some t = slice_get-get_or ts i no_task (omega arith) in
      let at_u : slice_get us i ≡ Some t = sym (same i (omega arith)) ∙ at_t in
      let a = get_or rs i no_row in
      let b = get_or ss i no_row in
      let as_a = x.each i t a at_t (slice_get-get_or rs i no_row in_r) in
      let as_b = y.each i t b at_u (slice_get-get_or ss i no_row in_s) in
      let F : List Row → Type 0 = λ placed. As means p placed t a in
      let is : a ≡ b = as_unique (means.order (told_of means p (take i ss)) t.level) (take i ss) t a b (subst F before as_a) as_b in
      let G : ℕ → Type 0 = λ n. take n rs ≡ take n ss in
      subst G (add-one i) (take_more_same rs ss i no_row in_r in_s before is)

  -- there is one way to place all tasks
  pub one_way : (tasks : List Task) (rs ss : List Row) → Placed means p tasks rs → Placed means p tasks ss → rs ≡ ss
  one_way tasks rs ss x y =
      let n : ℕ = length tasks in
      let same = agree n tasks tasks rs ss x y (omega arith) (omega arith) (λ j h. refl) in
      sym (take_all n rs (omega (arith, x.long))) ∙ same ∙ take_all n ss (omega (arith, y.long))

  -- where no controller takes a task, it is not placed
  pub stuck_not_placed
      : Lawful means
      → (m : ℕ)
      → means.count p ≡ m
      → (tasks us : List Task) (i : ℕ) (ss rows : List Row)
      → StuckAt means m p tasks i ss
      → Placed means p us rows
      → i < length us
      → ((j : ℕ) → j ≤ i → slice_get us j ≡ slice_get tasks j) → ⊥
  stuck_not_placed law m count tasks us i ss rows stuck all l same =
      let inside : i < length tasks = slice_get_within tasks i stuck.task stuck.here in
      let front = length-take-le i tasks (omega arith) in
      let long : length ss ≡ i = stuck.before.long ∙ front in
      let meet = agree i (take i tasks) us ss rows stuck.before all (omega arith) (omega arith)
      (λ j h. nth_take i tasks j h ∙ sym (same j (omega arith))) in
      let is : take i rows ≡ ss = sym meet ∙ take_all i ss (omega arith) in
      let row = get_or rows i no_row in
      let at = slice_get-get_or rows i no_row (omega (arith, all.long)) in
      let placed = all.each i stuck.task row (same i (omega arith) ∙ stuck.here) at in
      let low = placed_each_on means p law us rows all i row at in
      let F : List Row → Type 0 = λ xs. Takes row.controller xs stuck.task in
      stuck.none row.controller (omega (arith, count)) (subst F is placed.first.2)
