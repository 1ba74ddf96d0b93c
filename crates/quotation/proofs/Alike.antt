-- A text is that of one sheet, and front policies of one count are the same.
use Rattle.std.proofs.Common.{◌≡◌, ℕ, List, Some, Ok, sym, ap, ◌∙◌, subst}
use native.Mathlib.Bridge.{le_prop}
use Rattle.policies.specs.Meanings.{front_means}
use Rattle.tasks.specs.Counts.{Few}
use Rattle.policies.specs.declared.front.Front.{Front}
use Rattle.sheet.specs.Reading.{read_sheet}
use Rattle.sheet.specs.Text.{Valid, text}
use Rattle.sheet.proofs.Exact.{text_taken}
use Rattle.tasks.specs.declared.task.Task.{Task}

-- a front policy of this count
abbrev front_of : (m : ℕ) → Few m → Front
front_of m few = record { count = record { value = m; ok = few } }

same_few : (m : ℕ) (a b : Few m) → a ≡ b
same_few m a b = λ i. (le_prop a.0 b.0 i, le_prop a.1 b.1 i)

fronts : (m n : ℕ) → m ≡ n → (a : Few m) (b : Few n) → front_of m a ≡ front_of n b
fronts m n e a =
    let F : ℕ → Type 0 = λ k. (b : Few k) → front_of m a ≡ front_of k b in
    subst F e (λ b. ap (front_of m) (same_few m a b))

-- front policies of one count are the same
pub same_front : (p q : Front) → front_means.count p ≡ front_means.count q → p ≡ q
same_front p q e = fronts p.count.value q.count.value e p.count.ok q.count.ok

-- a text is that of one sheet
pub same_sheet
    : (sheet : List ℕ) (m n : ℕ) (tasks others : List Task)
    → sheet ≡ text m tasks → Valid m tasks → sheet ≡ text n others → Valid n others → (m ≡ n) × (tasks ≡ others)
same_sheet sheet m n tasks others e v f w =
    let a = text_taken m 64 tasks v v.tasks in
    let b = text_taken n 64 others w w.tasks in
    let s = sym a ∙ ap (λ t. read_sheet t 64) (sym e ∙ f) ∙ b in
    let p : Ok m ≡ Ok n = ap (λ r. r.answer) s in
    let q : Some tasks ≡ Some others = ap (λ r. r.rows) s in
    let x : m ≡ n = cc in
    let y : tasks ≡ others = cc in
    (x, y)
