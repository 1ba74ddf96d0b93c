-- One record of a table changed.
use Rattle.std.proofs.Common.{◌≡◌, ◌<◌, ◌≤◌, List, ⊎_elim, ℕ, get_or, set, sym, ap, ◌∙◌, arith}
use Rattle.std.proofs.lemmas.Bool.{cases_lt}
use Rattle.std.proofs.lemmas.List.{set_past}
use Rattle.control.specs.declared.table.Table.{Table}

-- by a rule, where there is such a record
pub changed_by
    : {R : Type 0} {n : ℕ} (t : Table R n) (d : R) (number : ℕ) (rule : R → R) (records : List R)
    → (number < n → (next : R) × (next ≡ rule (get_or t.records number d)) × (records ≡ set t.records number next))
    → (n ≤ number → records ≡ t.records) → records ≡ set t.records number (rule (get_or t.records number d))
changed_by {n = n} t d number rule records there beyond =
    ⊎_elim
    (λ (l : number < n). let (next, is, then) = there l in then ∙ ap (set t.records number) is)
    (λ (l : n ≤ number). beyond l ∙ sym (set_past t.records number (rule (get_or t.records number d)) (omega (arith, t.whole))))
    (cases_lt number n)
