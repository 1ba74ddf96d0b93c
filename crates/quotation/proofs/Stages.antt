-- What each stage from a sheet to its appendix leaves.
use Rattle.std.proofs.Common.{◌≡◌, ℕ, ◌≤◌, List, IsErrAnd, IfOk, Ok, Err, Result, sym, refl, ap, ◌∙◌, subst, arith}
use Rattle.std.proofs.lemmas.Result.{err_from_is_err_and}
use Rattle.policies.specs.Meanings.{front_means}
use Rattle.tasks.specs.Counts.{clamped}
use Rattle.policies.specs.declared.front.Front.{Front}
use Rattle.sheet.specs.Text.{Valid, text}
use Rattle.tasks.specs.declared.fault.AppendixFault.{AppendixFault}
use Rattle.tasks.specs.declared.fault.AppendixFault.TheVariants.{Plan}
use Rattle.tasks.specs.declared.fault.PlanFault.{PlanFault}
use Rattle.tasks.specs.declared.task.Task.{Task}
use Rattle.planner.specs.Outcomes.{Gives}
use Rattle.planner.specs.Planning.{Placed}
use Rattle.planner.specs.declared.row.Row.{Row}
use Rattle.printout.specs.Texts.{Wrote, appendix_text}
use Rattle.quotation.specs.Quotations.{Asks, Written, Quoted}

-- an answer, and that a length in it is small
abbrev Delivered : List ℕ → List ℕ → Result ℕ AppendixFault → List ℕ → Type 0
Delivered sheet before answer next = Quoted sheet before answer next × IfOk answer (λ n. n ≤ 970)

-- a fault that is carried up
pub carried
    : (sheet before : List ℕ) (r : Result ℕ AppendixFault) (fault : AppendixFault)
    → IsErrAnd r (λ y. y ≡ fault) → Quoted sheet before (Err fault) before → Delivered sheet before r before
carried sheet before r fault by q =
    let p = err_from_is_err_and r by in
    let D : Result ℕ AppendixFault → Type 0 = λ a. Delivered sheet before a before in
    subst D (sym (p.1 ∙ ap Err p.2)) (q, tt)

clamped_is : (m : ℕ) → 1 ≤ m → m ≤ 8 → clamped m ≡ m
clamped_is m l h = omega arith

module _ (sheet : List ℕ) (m : ℕ) (tasks : List Task) (policy : Front) (given : List Task)
    (e : sheet ≡ text m tasks) (valid : Valid m tasks) (front : front_means.count policy ≡ clamped m) (same : given ≡ tasks) where
  -- what the sheet asks
  asks : Asks sheet m tasks policy
  asks = record { sheet_text = e; valid = valid; front = front ∙ clamped_is m valid.controllers.0 valid.controllers.1 }

  -- planning was refused
  pub unplanned : (before : List ℕ) (fault : PlanFault) → Gives front_means m given policy (Err fault) → Quoted sheet before (Err (Plan fault)) before
  unplanned before fault gives =
      let G : List Task → Type 0 = λ ts. Gives front_means m ts policy (Err fault) in
      (record { m = m; tasks = tasks; policy = policy; asks = asks; gives = subst G same gives }, refl)

  -- the plan was written, or did not fit
  pub written
      : (controllers : ℕ) (rows : List Row) (before : List ℕ) (r : Result ℕ AppendixFault) (next : List ℕ)
      → controllers ≡ m
      → Placed front_means policy given rows
      → Wrote (appendix_text controllers rows) before r next → Quoted sheet before r next
  written controllers rows before r next is placed wrote =
      let P : List Task → Type 0 = λ ts. Placed front_means policy ts rows in
      let W : ℕ → Type 0 = λ k. Wrote (appendix_text k rows) before r next in
      by_answer r (m, rows, record { tasks = tasks; policy = policy; asks = asks; placed = subst P same placed }, subst W is wrote)
    where
      by_answer : (a : Result ℕ AppendixFault) → Written sheet before a next → Quoted sheet before a next
      by_answer (Ok n) w = w
      by_answer (Err fault) (k, rs, plan, (short, places, unchanged)) =
          let Q : AppendixFault → Type 0 = λ f. Quoted sheet before (Err f) next in
          subst Q (sym places) (k, rs, plan, (short, refl, unchanged))
