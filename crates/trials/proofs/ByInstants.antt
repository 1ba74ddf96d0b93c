-- Placing by a search over every instant of two periods' product. It computes, and what it finds is what planning means.
use Rattle.std.proofs.Common.{◌≡◌, ℕ, zero, suc, ◌+◌, ◌*◌, ◌/◌, ◌%◌, ◌<◌, ◌≤◌, Bool, true, false, cond, ◌&&◌, eqb, leb, ltb, List, length, is_some, Some, None, Option, sym, refl, ap, ap₂, ◌∙◌, subst, mul_assoc, zero-le, arith}
use Rattle.std.proofs.Math.Nat.{add-mul-mod_self_right, mod-add-div', mod-lt, mul-pos, mul_comm}
use Rattle.std.proofs.lemmas.Bool.{both_ways, eqb-true, eq-eqb, leb-true, le-leb, ltb-true, lt-ltb}
use Rattle.std.specs.List.{slice_get}
use Rattle.std.proofs.lemmas.List.{get_or_past}
use Rattle.std.proofs.lemmas.Option.{slice_get_within}
use Rattle.slots.specs.Slots.{Meet, On}
use Rattle.tasks.specs.Modes.{by_mode}
use Rattle.tasks.specs.Tasks.{Belongs, budget}
use Rattle.tasks.specs.declared.task.Task.{Task}
use Rattle.planner.specs.Placing.{Blocks, Clear, Least, PlacedAs, Takes}
use Rattle.planner.specs.Rows.{no_start, start}
use Rattle.planner.specs.declared.row.Row.{Row}
use Rattle.machine.specs.Below.{or_else, first_below}
use Rattle.machine.proofs.Basics.{first_none, first_some, none_some, some_same}

both : (a b : Bool) → (a && b) ≡ true → (a ≡ true) × (b ≡ true)
both true true e = (refl, refl)
both true false e = absurd (both_ways false refl e)
both false b e = absurd (both_ways false refl e)

-- none below the first passes
first_before : (n : ℕ) (p : ℕ → Bool) (i j : ℕ) → first_below n p ≡ Some i → j < i → p j ≡ false
first_before zero p i j e l = none_some i e
first_before (suc n) p i j e l = go (λ f. first_before n p i j f l) (first_below n p) refl (p n) refl
  where
    go : (first_below n p ≡ Some i → p j ≡ false) → (o : Option ℕ) → first_below n p ≡ o → (b : Bool) → p n ≡ b → p j ≡ false
    go below (Some k) f b g = below (f ∙ ap Some (some_same k i (sym (ap (λ o. or_else o (cond (p n) (Some n) None)) f) ∙ e)))
    go below None f true g =
        let is : n ≡ i = some_same n i (sym (ap₂ (λ o b. or_else o (cond b (Some n) None)) f g) ∙ e) in
        first_none n p f j (omega (arith, is))
    go below None f false g = none_some i (sym (ap₂ (λ o b. or_else o (cond b (Some n) None)) f g) ∙ e)

-- ---- one slot

abbrev pub on : ℕ → ℕ → ℕ → ℕ → Bool
on s c period t = leb s (t % period) && ltb (t % period) (s + c)

on_true : (s c period t : ℕ) → on s c period t ≡ true → On s c period t
on_true s c period t e = let (a, b) = both _ _ e in (leb-true _ _ a, ltb-true _ _ b)

on_is : (s c period t : ℕ) → On s c period t → on s c period t ≡ true
on_is s c period t (a, b) = ap₂ (λ x y. x && y) (le-leb _ _ a) (lt-ltb _ _ b)

-- the remainder by a period of a remainder by a multiple of it
mod_of_mod : (t k period : ℕ) → (t % (k * period)) % period ≡ t % period
mod_of_mod t k period =
    let h = k * period in
    sym (add-mul-mod_self_right (t % h) (t / h * k) period)
    ∙ ap (λ x. (t % h + x) % period) (mul_assoc (t / h) k period)
    ∙ ap (λ x. x % period) (mod-add-div' t h)

-- ---- two slots

module _ (s c period q b other : ℕ) where
  abbrev pub both_on : ℕ → Bool
  both_on t = on s c period t && on q b other t

  abbrev pub meet : Bool
  meet = is_some (first_below (period * other) both_on)

  meet_true : meet ≡ true → Meet (On s c period) (On q b other)
  meet_true e = go (first_below (period * other) both_on) refl
    where
      go : (o : Option ℕ) → first_below (period * other) both_on ≡ o → Meet (On s c period) (On q b other)
      go None f = absurd (both_ways false refl (sym (ap is_some f) ∙ e))
      go (Some t) f =
          let (_, passes) = first_some (period * other) both_on t f in
          let (x, y) = both _ _ passes in
          (t, on_true s c period t x, on_true q b other t y)

  meet_false : 1 ≤ period → 1 ≤ other → meet ≡ false → Meet (On s c period) (On q b other) → ⊥
  meet_false l k e (t, x, y) =
      let at : ℕ = t % (period * other) in
      let own : On s c period at = subst (λ r. (s ≤ r) × (r < s + c)) (sym (ap (λ h. (t % h) % period) (mul_comm period other) ∙ mod_of_mod t other period)) x in
      let others : On q b other at = subst (λ r. (q ≤ r) × (r < q + b)) (sym (mod_of_mod t period other)) y in
      let passes : both_on at ≡ true = ap₂ (λ u v. u && v) (on_is s c period at own) (on_is q b other at others) in
      go at (mod-lt t (below_product l k)) passes (first_below (period * other) both_on) refl
    where
      below_product : 1 ≤ period → 1 ≤ other → 0 < period * other
      below_product l k = mul-pos l k

      go : (at : ℕ) → at < period * other → both_on at ≡ true → (o : Option ℕ) → first_below (period * other) both_on ≡ o → ⊥
      go at below passes None f = both_ways (both_on at) (first_none (period * other) both_on f at below) passes
      go at below passes (Some i) f = both_ways meet e (ap is_some f)

-- ---- a task beside the rows placed before it

-- a row blocks the task's start s on controller c in the mode
abbrev pub blocks : ℕ → ℕ → Task → ℕ → Option Row → Bool
blocks c mode task s None = false
blocks c mode task s (Some row) =
    eqb row.controller c
    && (leb mode row.task.level && meet s (budget task mode) task.period (start row mode) (budget row.task mode) row.task.period)

module _ (c mode : ℕ) (placed : List Row) (task : Task) where
  abbrev pub some_blocks : ℕ → Bool
  some_blocks s = is_some (first_below (length placed) (λ i. blocks c mode task s (slice_get placed i)))

  abbrev pub clear : ℕ → Bool
  clear s = leb (s + budget task mode) task.deadline && cond (some_blocks s) false true

  abbrev pub least : Option ℕ
  least = first_below (task.deadline + 1) clear

-- each period is at least 1
abbrev pub Turning : List Row → Task → Type 0
Turning placed task = (1 ≤ task.period) × ((i : ℕ) (row : Row) → slice_get placed i ≡ Some row → 1 ≤ row.task.period)

module _ (c mode : ℕ) (placed : List Row) (task : Task) (turning : Turning placed task) where
  blocks_true : (s : ℕ) (row : Row) → blocks c mode task s (Some row) ≡ true → Blocks c mode task s row
  blocks_true s row e =
      let (there, rest) = both _ _ e in
      let (belongs, meets) = both _ _ rest in
      (eqb-true _ _ there, leb-true _ _ belongs, meet_true _ _ _ _ _ _ meets)

  blocks_false : (s i : ℕ) (row : Row) → slice_get placed i ≡ Some row → blocks c mode task s (Some row) ≡ false → Blocks c mode task s row → ⊥
  blocks_false s i row at e (there, belongs, meets) = go (meet s (budget task mode) task.period (start row mode) (budget row.task mode) row.task.period) refl
    where
      go : (m : Bool) → meet s (budget task mode) task.period (start row mode) (budget row.task mode) row.task.period ≡ m → ⊥
      go true f = both_ways _ e (ap₂ (λ u v. u && v) (eq-eqb _ _ there) (ap₂ (λ u v. u && v) (le-leb _ _ belongs) f))
      go false f = meet_false _ _ _ _ _ _ turning.0 (turning.1 i row at) f meets

  clear_true : (s : ℕ) → clear c mode placed task s ≡ true → Clear c mode placed task s
  clear_true s e = go (both _ _ e) (first_below (length placed) (λ i. blocks c mode task s (slice_get placed i))) refl
    where
      go : (leb (s + budget task mode) task.deadline ≡ true) × (cond (some_blocks c mode placed task s) false true ≡ true)
          → (o : Option ℕ) → first_below (length placed) (λ i. blocks c mode task s (slice_get placed i)) ≡ o → Clear c mode placed task s
      go (a, b) (Some i) f = absurd (both_ways false refl (sym (ap (λ o. cond (is_some o) false true) f) ∙ b))
      go (a, b) None f = (
        leb-true _ _ a,
        λ i row at. blocks_false s i row at (sym (ap (blocks c mode task s) at) ∙ first_none (length placed) (λ i. blocks c mode task s (slice_get placed i)) f i (slice_get_within placed i row at)),
      )

  clear_false : (s : ℕ) → clear c mode placed task s ≡ false → Clear c mode placed task s → ⊥
  clear_false s e (fits, none) = go (first_below (length placed) (λ i. blocks c mode task s (slice_get placed i))) refl
    where
      at_row : (i : ℕ) (o : Option Row) → slice_get placed i ≡ o → blocks c mode task s o ≡ true → ⊥
      at_row i None at f = both_ways false refl f
      at_row i (Some row) at f = none i row at (blocks_true s row f)

      go : (o : Option ℕ) → first_below (length placed) (λ i. blocks c mode task s (slice_get placed i)) ≡ o → ⊥
      go None f = both_ways _ e (ap₂ (λ u v. u && v) (le-leb _ _ fits) (ap (λ o. cond (is_some o) false true) f))
      go (Some i) f = at_row i (slice_get placed i) refl (first_some (length placed) _ i f).1

  pub least_some : (s : ℕ) → least c mode placed task ≡ Some s → Least (Clear c mode placed task) s
  least_some s e = (
    clear_true s (first_some (task.deadline + 1) _ s e).1,
    λ j l. clear_false j (first_before (task.deadline + 1) _ s j e l),
  )

  pub least_none : least c mode placed task ≡ None → (s : ℕ) → Clear c mode placed task s → ⊥
  least_none e s h = clear_false s (first_none (task.deadline + 1) _ e s (omega (arith, h.0))) h

-- whether controller c takes the task
abbrev pub takes : List Row → Task → Option ℕ → Bool
takes placed task None = false
takes placed task (Some c) = is_some (least c 0 placed task) && cond (ltb 0 task.level) (is_some (least c 1 placed task)) true

module _ (placed : List Row) (task : Task) (turning : Turning placed task) where
  pub takes_false : (c : ℕ) → takes placed task (Some c) ≡ false → Takes c placed task → ⊥
  takes_false c e t = go (least c 0 placed task) refl (ltb 0 task.level) refl (least c 1 placed task) refl
    where
      go : (a : Option ℕ) → least c 0 placed task ≡ a → (l : Bool) → ltb 0 task.level ≡ l → (b : Option ℕ) → least c 1 placed task ≡ b → ⊥
      go None f l g b h = let (s, x) = t 0 zero-le in least_none c 0 placed task turning f s x
      go (Some s) f false g b h = both_ways _ e (ap₂ (λ u v. u && v) (ap is_some f) (ap (λ l. cond l (is_some (least c 1 placed task)) true) g))
      go (Some s) f true g None h = let (s, x) = t 1 (ltb-true _ _ g) in least_none c 1 placed task turning h s x
      go (Some s) f true g (Some k) h = both_ways _ e (ap₂ (λ u v. u && v) (ap is_some f) (ap₂ (λ l o. cond l (is_some o) true) g h))

  module _ (order : List ℕ) (row : Row) (holds : row.task ≡ task) (k : ℕ) (at : slice_get order k ≡ Some row.controller)
      (before : first_below k (λ j. takes placed task (slice_get order j)) ≡ None)
      (first : least row.controller 0 placed task ≡ Some row.starts.everyday) where
    earlier : (j d : ℕ) → j < k → slice_get order j ≡ Some d → Takes d placed task → ⊥
    earlier j d l e = takes_false d (sym (ap (takes placed task) e) ∙ first_none k _ before j l)

    -- a mode past the two has no start
    past : (mode : ℕ) → 2 ≤ mode → start row mode ≡ no_start
    past mode l = get_or_past (by_mode row.starts) mode no_start l

    as_started : ((mode : ℕ) → Belongs task mode → Least (Clear row.controller mode placed task) (start row mode)) → ((mode : ℕ) → task.level < mode → start row mode ≡ no_start) → PlacedAs order placed task row
    as_started starts blank = record {
      first = (k, at, λ mode b. (start row mode, (starts mode b).0), earlier);
      on = record { holds = holds; there = refl; starts = starts; blank = blank };
    }

    -- an everyday task is placed so
    pub everyday_as : task.level ≡ 0 → row.starts.critical ≡ no_start → PlacedAs order placed task row
    everyday_as level none = as_started starts blank
      where
        starts : (mode : ℕ) → Belongs task mode → Least (Clear row.controller mode placed task) (start row mode)
        starts zero b = least_some row.controller 0 placed task turning row.starts.everyday first
        starts (suc m) b = absurd (omega (arith, level, b))

        blank : (mode : ℕ) → task.level < mode → start row mode ≡ no_start
        blank zero l = absurd (omega (arith, l))
        blank (suc zero) l = none
        blank (suc (suc m)) l = past (suc (suc m)) (omega arith)

    -- a critical one so
    pub critical_as : task.level ≡ 1 → least row.controller 1 placed task ≡ Some row.starts.critical → PlacedAs order placed task row
    critical_as level second = as_started starts blank
      where
        starts : (mode : ℕ) → Belongs task mode → Least (Clear row.controller mode placed task) (start row mode)
        starts zero b = least_some row.controller 0 placed task turning row.starts.everyday first
        starts (suc zero) b = least_some row.controller 1 placed task turning row.starts.critical second
        starts (suc (suc m)) b = absurd (omega (arith, level, b))

        blank : (mode : ℕ) → task.level < mode → start row mode ≡ no_start
        blank zero l = absurd (omega (arith, l))
        blank (suc zero) l = absurd (omega (arith, l, level))
        blank (suc (suc m)) l = past (suc (suc m)) (omega arith)
