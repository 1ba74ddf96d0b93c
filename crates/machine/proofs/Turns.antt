-- When a row's turn comes, and why a row that is due finds no job of another turn on its controller.
use Rattle.std.proofs.Common.{◌≡◌, ℕ, ◌+◌, ◌-◌, ◌*◌, ◌/◌, ◌%◌, ◌<◌, ◌≤◌, true, ◌&&◌, eqb, leb, List, Some, None, Option, sym, refl, ap, ◌∙◌, subst, ⊎_elim, mod-eq_of_lt, div-add-mod', arith}
use native.Mathlib.Nat.{add-mul-mod_self_right}
use Rattle.std.proofs.lemmas.Bool.{eqb-true, leb-true, eq-eqb, le-leb, and_parts, and_from, cases_eq, true≢false}
use Rattle.std.specs.List.{slice_get}
use Rattle.tasks.specs.Tasks.{budget, Belongs}
use Rattle.planner.specs.Rows.{start, Occupies}
use Rattle.planner.specs.Standing.{Stands}
use Rattle.planner.specs.declared.row.Row.{Row as PlanRow}
use Rattle.machine.specs.Plans.{Quoted}
use Rattle.machine.specs.Machine.{due_at}
use Rattle.machine.proofs.Basics.{some_same}
use Rattle.machine.proofs.Plans.{never_meet, period_room}
use Rattle.machine.proofs.Books.{Placed}

-- The row's turn comes so many instants after the opening of the mode.
abbrev Turn : PlanRow → ℕ → ℕ → Type 0
Turn row mode elapsed = elapsed % row.task.period ≡ start row mode

-- An instant at the row's turn is quoted.
pub turn_quoted
    : (row : PlanRow) (mode opening now : ℕ) → opening ≤ now → Turn row mode (now - opening) → Quoted row mode opening now
turn_quoted row mode opening now l e =
    let t : ℕ = row.task.period in
    let x : ℕ = now - opening in
    (x / t, omega (arith, div-add-mod' x t))

-- Where the period stands so many instants after a quoted one, fewer than the rest of the period.
after_turn
    : (row : PlanRow) (mode opening since now : ℕ) → Quoted row mode opening since → since ≤ now
    → start row mode + (now - since) < row.task.period → (now - opening) % row.task.period ≡ start row mode + (now - since)
after_turn row mode opening since now (k, e) l small =
    let t : ℕ = row.task.period in
    let x : now - opening ≡ start row mode + (now - since) + k * t = omega arith in
    ap (λ (y : ℕ). y % t) x ∙ add-mul-mod_self_right (start row mode + (now - since)) k t ∙ mod-eq_of_lt small

-- A quoted instant is at the row's turn.
pub quoted_turn
    : (row : PlanRow) (mode opening now : ℕ) → start row mode < row.task.period → Quoted row mode opening now
    → Turn row mode (now - opening)
quoted_turn row mode opening now small q =
    after_turn row mode opening now now q (omega arith) (omega arith) ∙ omega arith

-- ---- the machine's test

-- The row r on c is of the mode, and its turn comes so many instants after the opening.
pub record Called (rows : List PlanRow) (mode elapsed c r : ℕ) : Type 0 where
  pub place : Placed rows c r
  pub belongs : Belongs place.row.task mode
  pub turn : Turn place.row mode elapsed

-- Where the machine's test passes, so it is.
pub called
    : (rows : List PlanRow) (mode elapsed c r : ℕ) → due_at (slice_get rows r) mode elapsed c ≡ true → Called rows mode elapsed c r
called rows mode elapsed c r e = go (slice_get rows r) refl e
  where
    go : (o : Option PlanRow) → slice_get rows r ≡ o → due_at o mode elapsed c ≡ true → Called rows mode elapsed c r
    go None at t = absurd (true≢false (sym t))
    go (Some row) at t =
        let (on, rest) =
        and_parts (eqb row.controller c)
        (leb mode row.task.level && eqb (elapsed % row.task.period) (start row mode)) t in
        let (low, turn) = and_parts (leb mode row.task.level) (eqb (elapsed % row.task.period) (start row mode)) rest in
        record {
          place = record { row = row; at = at; on = eqb-true row.controller c on };
          belongs = leb-true mode row.task.level low;
          turn = eqb-true (elapsed % row.task.period) (start row mode) turn;
        }

-- Where it is so, the test passes.
pub calls
    : (rows : List PlanRow) (mode elapsed c r : ℕ) → Called rows mode elapsed c r → due_at (slice_get rows r) mode elapsed c ≡ true
calls rows mode elapsed c r x =
    let row : PlanRow = x.place.row in
    ap (λ (o : Option PlanRow). due_at o mode elapsed c) x.place.at
    ∙ and_from (eqb row.controller c) (leb mode row.task.level && eqb (elapsed % row.task.period) (start row mode))
    (eq-eqb row.controller c x.place.on)
    (and_from (leb mode row.task.level) (eqb (elapsed % row.task.period) (start row mode))
    (le-leb mode row.task.level x.belongs) (eq-eqb (elapsed % row.task.period) (start row mode) x.turn))

-- ---- no two at once

-- The row r on c is of the mode, and occupies the instant that comes so many after the opening.
pub record Within (rows : List PlanRow) (mode elapsed c r : ℕ) : Type 0 where
  pub place : Placed rows c r
  pub belongs : Belongs place.row.task mode
  pub occupies : Occupies place.row mode elapsed

-- One row at most does so on a controller.
pub only_one
    : {m : ℕ} {rows : List PlanRow} → Stands m rows → (mode elapsed c r q : ℕ) → Within rows mode elapsed c r
    → Within rows mode elapsed c q → r ≡ q
only_one st mode elapsed c r q x y = ⊎_elim (λ (e : r ≡ q). e) (λ (n : r ≡ q → ⊥). absurd (other n)) (cases_eq r q)
  where
    other : (r ≡ q → ⊥) → ⊥
    other n =
        never_meet st r q x.place.row y.place.row x.place.at y.place.at n (x.place.on ∙ sym y.place.on)
        mode x.belongs y.belongs elapsed x.occupies y.occupies

-- A row whose turn comes occupies the instant.
pub called_within
    : {m : ℕ} {rows : List PlanRow} → Stands m rows → (mode elapsed c r : ℕ) → Called rows mode elapsed c r
    → Within rows mode elapsed c r
called_within st mode elapsed c r x =
    let p : Placed _ c r = x.place in
    let b = (st.sound r p.row p.at).range.some mode x.belongs in
    record { place = p; belongs = x.belongs; occupies = (omega (arith, x.turn), omega (arith, x.turn)) }

-- A job of the row is in time at the next instant, `ticks`: it was started at a quoted instant of the present opening of the
-- mode, and is not yet past its budget.
pub record Timed (row : PlanRow) (mode opening ticks since : ℕ) : Type 0 where
  pub belongs : Belongs row.task mode
  pub quoted : Quoted row mode opening since
  pub past : since < ticks
  pub within : ticks ≤ since + budget row.task mode

-- A job that is not spent keeps its slot, so no row's turn comes there.
pub due_alone
    : {m : ℕ} {rows : List PlanRow} → Stands m rows → (mode opening now c r : ℕ) → Called rows mode (now - opening) c r
    → (q since : ℕ) (p : Placed rows c q) → Timed p.row mode opening now since → now < since + budget p.row.task mode → ⊥
due_alone {rows = rows} st mode opening now c r x q since p t unspent =
    let room = period_room p.row (st.sound q p.row p.at) mode t.belongs in
    let at = after_turn p.row mode opening since now t.quoted (omega (arith, t.past)) (omega (arith, room, t.past)) in
    let w : Within rows mode (now - opening) c q =
    record { place = p; belongs = t.belongs; occupies = (omega (arith, at), omega (arith, at, t.past)) } in
    let e : r ≡ q = only_one st mode (now - opening) c r q (called_within st mode (now - opening) c r x) w in
    let same : x.place.row ≡ p.row = some_same x.place.row p.row (sym x.place.at ∙ ap (slice_get rows) e ∙ p.at) in
    let turn : Turn p.row mode (now - opening) =
    subst (λ (row : PlanRow). Turn row mode (now - opening)) same x.turn in
    omega (arith, turn, at, t.past)
