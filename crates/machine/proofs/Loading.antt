-- What an accepted load finds, and what it leaves.
use Rattle.std.proofs.Common.{◌≡◌, ℕ, ◌≤◌, Bool, true, false, cond, eqb, List, length, get_or, replicate, is_some, Some, None, Ok, Err, Option, Result, sym, refl, ap, ◌∙◌, arith}
use Rattle.std.proofs.lemmas.List.{same_lists, get_or_default, get_or-replicate, length-replicate}
use Rattle.std.proofs.lemmas.Bool.{eqb-true, eqb-false}
use Rattle.tasks.specs.declared.fault.ControlFault.{ControlFault}
use Rattle.tasks.specs.declared.fault.ControlFault.TheVariants.{Loaded, Counts as CountsDiffer, Busy}
use Rattle.planner.specs.declared.row.Row.{Row as PlanRow}
use Rattle.machine.specs.Below.{first_below}
use Rattle.machine.specs.Machine.{State, busy, fresh, loaded, load_answer, by_result, load_after}
use Rattle.machine.proofs.Basics.{no_busy, first_none}

-- A refusal is no acceptance.
refused_not : {Y : Type 0} (fault : ControlFault) → ◌≡◌ {A = Result (Unit {0}) ControlFault} (Err fault) (Ok tt) → Y
refused_not fault e = let z : ◌≡◌ {A = ℕ} 0 1 = cc in absurd (omega arith)

-- An accepted load finds an idle bench of as many controllers as the plan is for, and that is at least one.
pub load_idle : (s : State) (m : ℕ) → load_answer s m ≡ Ok tt → (s.shows ≡ replicate m None) × (1 ≤ m)
load_idle s m =
    go (eqb s.controllers 0) (eqb m 0) refl (eqb m (length s.shows)) refl (first_below (length s.shows) (busy s)) refl
  where
    each_idle : m ≡ length s.shows → first_below (length s.shows) (busy s) ≡ None → s.shows ≡ replicate m None
    each_idle e idle =
        same_lists s.shows (replicate m None) (sym e ∙ sym (length-replicate m None))
        (λ k d l.
        get_or_default s.shows k d None l
        ∙ no_busy (get_or s.shows k None) (first_none (length s.shows) (busy s) idle k l)
        ∙ sym (get_or-replicate m k None d (omega arith)))

    go
        : (x y : Bool) → eqb m 0 ≡ y → (z : Bool) → eqb m (length s.shows) ≡ z
        → (o : Option ℕ) → first_below (length s.shows) (busy s) ≡ o
        → ◌≡◌ {A = Result (Unit {0}) ControlFault}
        (cond x (cond y (Err CountsDiffer) (cond z (cond (is_some o) (Err Busy) (Ok tt)) (Err CountsDiffer))) (Err Loaded)) (Ok tt)
        → (s.shows ≡ replicate m None) × (1 ≤ m)
    go false y none z many o first e = refused_not Loaded e
    go true true none z many o first e = refused_not CountsDiffer e
    go true false none false many o first e = refused_not CountsDiffer e
    go true false none true many (Some c) first e = refused_not Busy e
    go true false none true many None first e =
        let n : m ≡ 0 → ⊥ = eqb-false m 0 none in
        (each_idle (eqb-true m (length s.shows) many) first, omega arith)

-- So it leaves the plan just loaded.
pub load_loaded
    : (s : State) (m : ℕ) (rows : List PlanRow) → load_answer s m ≡ Ok tt → load_after s m rows ≡ loaded m rows
load_loaded s m rows e =
    ap (λ (r : Result (Unit {0}) ControlFault). by_result r (fresh m rows s.shows) s) e
    ∙ ap (fresh m rows) (load_idle s m e).0
