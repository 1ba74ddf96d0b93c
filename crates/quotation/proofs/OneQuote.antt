-- One thing comes of a sheet.
use Rattle.std.proofs.Common.{◌≡◌, ℕ, ◌≤◌, List, length, IfOk, Ok, Err, Result, sym, ap, ◌∙◌, subst, arith}
use Rattle.std.specs.List.{AllByRecursion}
use Rattle.std.proofs.ByRecursion.{All-get_or}
use Rattle.policies.specs.Meanings.{front_means}
use Rattle.policies.specs.declared.front.Front.{Front}
use Rattle.policies.specs.Arranged.{front_lawful}
use Rattle.sheet.specs.Reading.{read_sheet}
use Rattle.sheet.proofs.Exact.{text_taken}
use Rattle.tasks.specs.Tasks.{InRange}
use Rattle.tasks.specs.declared.fault.AppendixFault.{AppendixFault}
use Rattle.tasks.specs.declared.fault.AppendixFault.TheVariants.{Sheet, Plan, Places}
use Rattle.tasks.specs.declared.fault.PlanFault.{PlanFault}
use Rattle.tasks.specs.declared.fault.SheetFault.{SheetFault}
use Rattle.tasks.specs.declared.task.Task.{Task}
use Rattle.planner.specs.Outcomes.{Gives}
use Rattle.planner.specs.Planning.{Placed}
use Rattle.planner.specs.Searching.{EachInRange}
use Rattle.planner.specs.declared.row.Row.{Row}
use Rattle.planner.proofs.Outcomes.{exactly}
use Rattle.std.proofs.lemmas.Option.{get_or_from_slice_get, slice_get_within}
use Rattle.planner.proofs.Unique.{one_way}
use Rattle.printout.specs.Texts.{Wrote, appendix_text}
use Rattle.quotation.specs.Quotations.{Asks, Planned, Unplanned, Written, Quoted, Only}
use Rattle.quotation.proofs.Alike.{same_front, same_sheet}

-- one writing of one text
wrote_one : (t before : List ℕ) (a b : Result ℕ AppendixFault) (x y : List ℕ) → Wrote t before a x → Wrote t before b y → (b ≡ a) × (y ≡ x)
wrote_one t before (Ok n) (Ok k) x y (l, e, f) (l', e', f') = (ap Ok (e' ∙ sym e), f' ∙ sym f)
wrote_one t before (Ok n) (Err g) x y (l, e, f) (l', e', f') = absurd (omega arith)
wrote_one t before (Err g) (Ok n) x y (l, e, f) (l', e', f') = absurd (omega arith)
wrote_one t before (Err g) (Err h) x y (l, e, f) (l', e', f') = (ap Err (e' ∙ sym e), f' ∙ sym f)

module _ (sheet : List ℕ) (m n : ℕ) (tasks others : List Task) (p q : Front) (a : Asks sheet m tasks p) (b : Asks sheet n others q) where
  -- a sheet asks one thing
  asks_one : (m ≡ n) × (tasks ≡ others) × (p ≡ q)
  asks_one =
      let (x, y) = same_sheet sheet m n tasks others a.sheet_text a.valid b.sheet_text b.valid in
      (x, y, same_front p q (a.front ∙ x ∙ sym b.front))

-- rows of a sheet that are placed
planned_one : (sheet : List ℕ) (m n : ℕ) (rows others : List Row) → Planned sheet m rows → Planned sheet n others → (m ≡ n) × (rows ≡ others)
planned_one sheet m n rows others a b =
    let (x, y, z) = asks_one sheet m n a.tasks b.tasks a.policy b.policy a.asks b.asks in
    let T : List Task → Type 0 = λ ts. Placed front_means a.policy ts rows in
    let P : Front → Type 0 = λ f. Placed front_means f b.tasks rows in
    (x, one_way front_means b.policy b.tasks rows others (subst P z (subst T y a.placed)) b.placed)

written_one : (sheet before : List ℕ) (a b : Result ℕ AppendixFault) (x y : List ℕ) → Written sheet before a x → Written sheet before b y → (b ≡ a) × (y ≡ x)
written_one sheet before a b x y (m, rows, plan, wrote) (n, others, plan', wrote') =
    let (e, f) = planned_one sheet m n rows others plan plan' in
    let W : List ℕ → Type 0 = λ t. Wrote t before a x in
    wrote_one (appendix_text n others) before a b x y (subst W (λ i. appendix_text (e i) (f i)) wrote) wrote'

-- tasks of a valid sheet are in range
each_in_range : (tasks : List Task) → AllByRecursion InRange tasks → EachInRange tasks
each_in_range tasks all i task at =
    subst InRange (get_or_from_slice_get tasks i task task at) (All-get_or InRange tasks i task (slice_get_within tasks i task at) all)

-- a plan and a refusal of planning do not both come
planned_or_not : (sheet : List ℕ) (m : ℕ) (rows : List Row) (fault : PlanFault) → Planned sheet m rows → Unplanned sheet fault → ⊥
planned_or_not sheet m rows fault a b =
    let (x, y, z) = asks_one sheet m b.m a.tasks b.tasks a.policy b.policy a.asks b.asks in
    let T : List Task → Type 0 = λ ts. Placed front_means a.policy ts rows in
    let P : Front → Type 0 = λ f. Placed front_means f b.tasks rows in
    let v = b.asks.valid in
    let given : Gives front_means b.m b.tasks b.policy (Ok tt) =
    ((v.controllers.0, v.controllers.1, v.tasks), b.asks.front, each_in_range b.tasks v.each.numbers, (rows, subst P z (subst T y a.placed))) in
    let e = (exactly front_means front_lawful b.m b.tasks b.policy (Ok tt) given (Err fault)).1 b.gives in
    let w : ◌≡◌ {A = ℕ} 0 1 = cc in
    omega arith

unplanned_one : (sheet : List ℕ) (f g : PlanFault) → Unplanned sheet f → Unplanned sheet g → f ≡ g
unplanned_one sheet f g a b =
    let (x, y, z) = asks_one sheet a.m b.m a.tasks b.tasks a.policy b.policy a.asks b.asks in
    let M : ℕ → Type 0 = λ k. Gives front_means k a.tasks a.policy (Err f) in
    let T : List Task → Type 0 = λ ts. Gives front_means b.m ts a.policy (Err f) in
    let P : Front → Type 0 = λ q. Gives front_means b.m b.tasks q (Err f) in
    let e = (exactly front_means front_lawful b.m b.tasks b.policy (Err f) (subst P z (subst T y (subst M x a.gives))) (Err g)).1 b.gives in
    let w : f ≡ g = cc in
    w

-- a sheet that asks something is not refused by the reader
asked : (sheet : List ℕ) (m : ℕ) (tasks : List Task) (p : Front) (fault : SheetFault) → Asks sheet m tasks p → (read_sheet sheet 64).answer ≡ Err fault → ⊥
asked sheet m tasks p fault a e =
    let taken = ap (λ r. r.answer) (ap (λ t. read_sheet t 64) a.sheet_text ∙ text_taken m 64 tasks a.valid a.valid.tasks) in
    let w : ◌≡◌ {A = ℕ} 0 1 = cc in
    omega arith

written_asked : (sheet before : List ℕ) (a : Result ℕ AppendixFault) (x : List ℕ) (fault : SheetFault) → Written sheet before a x → (read_sheet sheet 64).answer ≡ Err fault → ⊥
written_asked sheet before a x fault (m, rows, plan, wrote) = asked sheet m plan.tasks plan.policy fault plan.asks

-- whatever comes of a sheet is the only thing that does
pub only : (sheet before : List ℕ) (answer : Result ℕ AppendixFault) (next : List ℕ) → Quoted sheet before answer next → Only sheet before answer next
only sheet before (Ok n) x a (Ok k) y b = written_one sheet before (Ok n) (Ok k) x y a b
only sheet before (Ok n) x a (Err Places) y b = written_one sheet before (Ok n) (Err Places) x y a b
only sheet before (Ok n) x a (Err (Sheet f)) y b = absurd (written_asked sheet before (Ok n) x f a b.0)
only sheet before (Ok n) x (m, rows, plan, wrote) (Err (Plan f)) y b = absurd (planned_or_not sheet m rows f plan b.0)
only sheet before (Err Places) x a (Ok k) y b = written_one sheet before (Err Places) (Ok k) x y a b
only sheet before (Err Places) x a (Err Places) y b = written_one sheet before (Err Places) (Err Places) x y a b
only sheet before (Err Places) x a (Err (Sheet f)) y b = absurd (written_asked sheet before (Err Places) x f a b.0)
only sheet before (Err Places) x (m, rows, plan, wrote) (Err (Plan f)) y b = absurd (planned_or_not sheet m rows f plan b.0)
only sheet before (Err (Sheet f)) x a (Ok k) y b = absurd (written_asked sheet before (Ok k) y f b a.0)
only sheet before (Err (Sheet f)) x a (Err Places) y b = absurd (written_asked sheet before (Err Places) y f b a.0)
only sheet before (Err (Sheet f)) x a (Err (Sheet g)) y b =
    let e : Err f ≡ Err g = sym a.0 ∙ b.0 in
    let w : g ≡ f = cc in
    (ap (λ s. Err (Sheet s)) w, b.1 ∙ sym a.1)
only sheet before (Err (Sheet f)) x a (Err (Plan g)) y b = absurd (asked sheet b.0.m b.0.tasks b.0.policy f b.0.asks a.0)
only sheet before (Err (Plan f)) x a (Ok k) y (m, rows, plan, wrote) = absurd (planned_or_not sheet m rows f plan a.0)
only sheet before (Err (Plan f)) x a (Err Places) y (m, rows, plan, wrote) = absurd (planned_or_not sheet m rows f plan a.0)
only sheet before (Err (Plan f)) x a (Err (Sheet g)) y b = absurd (asked sheet a.0.m a.0.tasks a.0.policy g a.0.asks b.0)
only sheet before (Err (Plan f)) x a (Err (Plan g)) y b = (ap (λ s. Err (Plan s)) (sym (unplanned_one sheet f g a.0 b.0)), b.1 ∙ sym a.1)

-- an appendix that is written lies within the bytes
pub within
    : (sheet before : List ℕ) (answer : Result ℕ AppendixFault) (next : List ℕ)
    → Quoted sheet before answer next
    → IfOk answer (λ n. n ≤ 970) → IfOk answer (λ n. (n ≤ 970) × (n ≤ length before))
within sheet before (Ok n) next (m, rows, plan, (l, e, f)) small = (small, omega arith)
within sheet before (Err fault) next q small = tt
