-- What the slice of the records has at i is record i.
use Rattle.std.proofs.Common.{◌≡◌, ℕ, ◌<◌, ◌≤◌, List, length, get_or, Some, None, Option, sym, refl, ap, ◌∙◌, rules, MatchOption}
use Rattle.std.specs.List.{slice_get}
use Rattle.std.proofs.lemmas.Option.{slice_get_past, slice_get_read}
use Rattle.records.proofs.Records.get.Goals as goal

at : {X : Type 0} (xs : List X) (i : ℕ) (o : Option X) → MatchOption o (length xs ≤ i) (λ x. (i < length xs) × (x ≡ get_or xs i x)) → o ≡ slice_get xs i
at xs i None h = sym (slice_get_past xs i h)
at xs i (Some x) h = sym (slice_get_read xs (length xs) i x refl h.0 h.1)

pub returns : goal.returns
returns g c = record { value = at c.as_slice.result.now c.args.i c.copied.result (search rules) ∙ ap (λ xs. slice_get xs c.args.i) c.as_slice.ensures.value }
