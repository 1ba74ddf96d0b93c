-- What a function finds at a place of an order, where it answers exactly at the places that there are.
use Rattle.std.proofs.Common.{◌≡◌, ℕ, nat_lt, Some, None, Option, is_some, sym}
use Rattle.std.specs.Prelude.{IfSome}
use Rattle.std.specs.List.{slice_get}
use Rattle.std.proofs.lemmas.Bool.{ltb-true, ltb-false}
use Rattle.policies.specs.Orders.{by_place}
use Rattle.policies.specs.Places.{nth_at, nth_beyond}

pub placed
    : (f : ℕ → ℕ) (m k : ℕ) (r : Option ℕ)
    → is_some r ≡ nat_lt k m
    → IfSome r (λ c. c ≡ f k)
    → r ≡ slice_get (by_place m f) k
placed f m k (Some c) there is = rw is (sym (nth_at f m k (ltb-true k m (sym there))))
placed f m k None there _ = sym (nth_beyond f m k (ltb-false k m (sym there)))
