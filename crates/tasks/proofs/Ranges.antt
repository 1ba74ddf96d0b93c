-- The test of a task's numbers says what the ranges say.
use Rattle.std.proofs.Common.{◌≡◌, ℕ, zero, suc, ◌<◌, ◌≤◌, Bool, true, ◌↔◌, sym, refl, ◌∙◌, ⊎_elim, arith}
use Rattle.std.proofs.lemmas.Bool.Decides.{nat_tests}
use Rattle.std.proofs.lemmas.Bool.{cases_eq}
use Rattle.tasks.specs.Tasks.{Belongs, InRange, budget, in_range}
use Rattle.tasks.specs.declared.task.Task.{Task}

-- what the test tells, in plain inequalities
record Plain (t : Task) : Type 0 where
  level : t.level ≤ 1
  period : (1 ≤ t.period) × (t.period ≤ 60000)
  deadline : (1 ≤ t.deadline) × (t.deadline ≤ t.period)
  everyday : (1 ≤ budget t 0) × (budget t 0 ≤ t.deadline)
  none : t.level ≡ 0 → budget t 1 ≡ 0
  critical : t.level ≡ 1 → (budget t 0 ≤ budget t 1) × (budget t 1 ≤ t.deadline)

plain : (t : Task) → in_range t ≡ true → Plain t
plain t e = record {
  level = grind (arith, nat_tests);
  period = grind (arith, nat_tests);
  deadline = grind (arith, nat_tests);
  everyday = grind (arith, nat_tests);
  none = λ z. grind (arith, nat_tests);
  critical = λ z. grind (arith, nat_tests);
}

some : (t : Task) → Plain t → (mode : ℕ) → Belongs t mode → 1 ≤ budget t mode
some t p zero b = p.everyday.0
some t p (suc zero) b = let one : t.level ≡ 1 = omega (arith, p.level) in omega (arith, p.critical one, p.everyday)
some t p (suc (suc k)) b = absurd (omega (arith, p.level))

within : (t : Task) → Plain t → (mode : ℕ) → Belongs t mode → budget t mode ≤ t.deadline
within t p zero b = p.everyday.1
within t p (suc zero) b = let one : t.level ≡ 1 = omega (arith, p.level) in (p.critical one).1
within t p (suc (suc k)) b = absurd (omega (arith, p.level))

rising : (t : Task) → Plain t → (j k : ℕ) → j ≤ k → Belongs t k → budget t j ≤ budget t k
rising t p zero zero l b = omega arith
rising t p zero (suc zero) l b = let one : t.level ≡ 1 = omega (arith, p.level) in (p.critical one).0
rising t p (suc j) zero l b = absurd (omega arith)
rising t p (suc zero) (suc zero) l b = omega arith
rising t p (suc (suc j)) (suc zero) l b = absurd (omega arith)
rising t p j (suc (suc k)) l b = absurd (omega (arith, p.level))

blank : (t : Task) → Plain t → (mode : ℕ) → t.level < mode → budget t mode ≡ 0
blank t p zero l = absurd (omega arith)
blank t p (suc zero) l = p.none (omega arith)
blank t p (suc (suc k)) l = refl

-- a task that passes the test is in range
pub in_range_holds : (t : Task) → in_range t ≡ true → InRange t
in_range_holds t e =
    let p = plain t e in
    record {
      level = p.level;
      period = p.period;
      deadline = p.deadline;
      some = some t p;
      within = within t p;
      rising = rising t p;
      blank = blank t p;
    }

-- and a task in range passes it
pub passes : (t : Task) → InRange t → in_range t ≡ true
passes t r = ⊎_elim
    (λ none.
    let b = r.blank 1 (omega arith) in
    let s = r.some 0 (omega arith) in
    let w = r.within 0 (omega arith) in
    grind (arith, nat_tests, r.level, r.period, r.deadline))
    (λ one.
    let b = r.within 1 (omega arith) in
    let c = r.rising 0 1 (omega arith) (omega arith) in
    let s = r.some 0 (omega arith) in
    let w = r.within 0 (omega arith) in
    grind (arith, nat_tests, r.level, r.period, r.deadline))
    (cases_eq t.level 0)

-- so the result of the test says exactly that
pub exactly : (t : Task) (r : Bool) → r ≡ in_range t → (r ≡ true) ↔ InRange t
exactly t r e = ((λ yes. in_range_holds t (sym e ∙ yes)), (λ h. e ∙ passes t h))
