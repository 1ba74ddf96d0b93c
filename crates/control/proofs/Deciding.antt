-- How a tick's decision is put together.
use Rattle.std.proofs.Common.{◌≡◌, ℕ, ◌+◌, ◌<◌, Bool, true, false, cond, ◌&&◌, ◌≢◌, List, length, get_or, set, is_some, Some, None, Option, sym, refl, ap, ◌∙◌, subst, arith, below_more}
use Rattle.std.proofs.lemmas.List.{length-set, get_or-set_same, get_or-set_other}
use Rattle.std.proofs.lemmas.Bool.{both_ways, cond-true, cond-false}
use Rattle.tasks.specs.Modes.{number}
use Rattle.tasks.specs.declared.mode.Mode.{Mode}
use Rattle.tasks.specs.declared.mode.Mode.TheVariants.{Critical}
use Rattle.machine.specs.Machine.{job_of}

-- a table by controller, filled one place further
pub table_more
    : (P : ℕ → Option ℕ → Type 0) (xs : List (Option ℕ)) (n : ℕ) (x : Option ℕ) → length xs ≡ 8 → n < 8
    → ((d : ℕ) → d < n → P d (get_or xs d None)) → P n x
    → (length (set xs n x) ≡ 8) × ((d : ℕ) → d < n + 1 → P d (get_or (set xs n x) d None))
table_more P xs n x len l old new = (
  length-set xs n x ∙ len,
  below_more _ _
      (λ d k. let ne : d ≢ n = omega arith in subst (P d) (sym (get_or-set_other xs n d x None ne)) (old d k))
      (subst (P n) (sym (get_or-set_same xs n x None (omega arith))) new),
)

-- the mode and the opening that a switch leaves
pub switched
    : (b : Bool) (p : Mode × ℕ) (mode : Mode) (next opening : ℕ) → b ≡ true → p ≡ (Critical, next)
    → (number p.0 ≡ cond b 1 (number mode)) × (p.1 ≡ cond b next opening)
switched b p mode next opening t e =
    (ap (λ (q : Mode × ℕ). number q.0) e ∙ sym (cond-true b 1 (number mode) t), ap (λ (q : Mode × ℕ). q.1) e ∙ sym (cond-true b next opening t))

-- those that stay where there is none
pub unswitched
    : (b : Bool) (p : Mode × ℕ) (mode : Mode) (next opening : ℕ) → b ≡ false → p ≡ (mode, opening)
    → (number p.0 ≡ cond b 1 (number mode)) × (p.1 ≡ cond b next opening)
unswitched b p mode next opening f e =
    (ap (λ (q : Mode × ℕ). number q.0) e ∙ sym (cond-false b 1 (number mode) f), ap (λ (q : Mode × ℕ). q.1) e ∙ sym (cond-false b next opening f))

-- whether a controller is blocked: a row d is due, and its job o, which started at t, is not cut
abbrev stuck : Option ℕ → Bool → Option ℕ → ℕ → Bool
stuck d b o t = is_some d && is_some (cond b None (job_of o t))

pub cut_away : (d : Option ℕ) (b : Bool) (o : Option ℕ) (t : ℕ) → is_some (cond b o None) ≡ true → false ≡ stuck d b o t
cut_away None b o t e = refl
cut_away (Some r) true o t e = refl
cut_away (Some r) false o t e = absurd (both_ways false refl e)

pub stays : (d : Option ℕ) (b : Bool) (o : Option ℕ) (t : ℕ) → is_some d ≡ true → is_some (cond b o None) ≡ false → is_some o ≡ stuck d b o t
stays None b o t e f = absurd (both_ways false refl e)
stays (Some r) true o t e f = f
stays (Some r) false None t e f = refl
stays (Some r) false (Some q) t e f = refl
