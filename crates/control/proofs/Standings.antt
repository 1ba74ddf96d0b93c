-- How a return and the question how things stand are answered.
use Rattle.std.proofs.Common.{◌≡◌, ℕ, Bool, false, cond, eqb, length, is_some, Ok, Err, Option, Result, sym, refl, ap, ◌∙◌}
use Rattle.std.proofs.lemmas.Bool.{cond-false}
use Rattle.tasks.specs.Modes.{number}
use Rattle.tasks.specs.declared.fault.ControlFault.{ControlFault}
use Rattle.tasks.specs.declared.fault.ControlFault.TheVariants.{Busy, Everyday}
use Rattle.tasks.specs.declared.mode.Mode.{Mode}
use Rattle.tasks.specs.declared.mode.Mode.TheVariants.{Critical, Everyday as EverydayMode}
use Rattle.benches.specs.Sets.{busy_count, lowest_busy}
use Rattle.machine.specs.Below.{count_below, first_below}
use Rattle.machine.specs.Entries.{mode_of}
use Rattle.machine.specs.Machine.{State, busy, return_answer, some_busy, when_loaded}
use Rattle.machine.specs.declared.entry.Standing.{Standing}
use Rattle.control.proofs.BusyOnes.{count_is, lowest_is}
use Rattle.control.proofs.Calling.{loaded_then}

-- whether some controller is busy, as the bench tells it
pub busy_told : (s : State) (lowest : Option ℕ) (b : Bool) → lowest ≡ lowest_busy s.shows → is_some lowest ≡ b → some_busy s ≡ b
busy_told s lowest b e f = ap is_some (sym (lowest_is s.shows)) ∙ ap is_some (sym e) ∙ f

-- in the critical mode, the busy controllers decide
pub return_by
    : (s : State) (x : Unit {0}) → Ok x ≡ when_loaded {X = Unit {0}} s (Ok tt) → (mode : Mode) → s.mode ≡ number mode → mode ≡ Critical
    → (b : Bool) → some_busy s ≡ b → return_answer s ≡ cond b (Err Busy) (Ok tt)
return_by s x e mode is critical b told =
    let rest : Result (Unit {0}) ControlFault = cond (some_busy s) (Err Busy) (Ok tt) in
    let other : eqb s.mode 0 ≡ false = ap (λ (n : ℕ). eqb n 0) is ∙ ap (λ (m : Mode). eqb (number m) 0) critical in
    loaded_then s (cond (eqb s.mode 0) (Err Everyday) rest) x e
    ∙ cond-false (eqb s.mode 0) (Err Everyday) rest other
    ∙ ap (λ (t : Bool). cond {A = Result (Unit {0}) ControlFault} t (Err Busy) (Ok tt)) told

-- a mode is the one with its number
mode_back : (mode : Mode) → mode ≡ mode_of (number mode)
mode_back EverydayMode = refl
mode_back Critical = refl

-- how things stand, as it is put together
pub stands
    : (s : State) (mode : Mode) → s.mode ≡ number mode → (many : ℕ) → many ≡ busy_count s.shows → (lowest : Option ℕ) → lowest ≡ lowest_busy s.shows
    → ◌≡◌ {A = Standing} (record { mode = mode; opening = s.opening; next = s.next; busy = many; lowest = lowest })
    (record { mode = mode_of s.mode; opening = s.opening; next = s.next; busy = count_below (length s.shows) (busy s); lowest = first_below (length s.shows) (busy s) })
stands s mode is many e lowest f =
    let m = mode_back mode ∙ ap mode_of (sym is) in
    let b = e ∙ count_is s.shows in
    let l = f ∙ lowest_is s.shows in
    λ i. record { mode = m i; opening = s.opening; next = s.next; busy = b i; lowest = l i }
