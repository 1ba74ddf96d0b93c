-- What stands at the places of an order that is given by place.
use Rattle.std.specs.Prelude.{◌≡◌, ℕ, ◌<◌, ◌≤◌, List, length, Some, None}
use Rattle.std.proofs.Common.{ap, ◌∙◌, arith}
use Rattle.std.proofs.Math.Decide.{dec_le, dec_lt}
use Rattle.std.specs.List.{slice_get}
use Rattle.std.proofs.lemmas.List.FromFn.{length-map-range_with_len, get_or-map-range_with_len}
use Rattle.std.proofs.lemmas.Option.{slice_get-get_or, slice_get_past}
use Rattle.policies.specs.Orders.{by_place}

-- a place with a name is below the length: for a walk along an order
pub place_below : (order : List ℕ) (k c : ℕ) → slice_get order k ≡ Some c → k < length order
place_below order k c e = go (dec_le (length order) k)
  where
    go : Dec (length order ≤ k) → k < length order
    go (yes h) = let past = slice_get_past order k h in let z : ◌≡◌ {A = ℕ} 0 1 = cc in absurd (omega arith)
    go (no h) = omega arith

-- where the names end, each name of the order was passed: for a walk that finds nothing
pub name_passed : (order : List ℕ) (k : ℕ) → slice_get order k ≡ None → (j c : ℕ) → slice_get order j ≡ Some c → j < k
name_passed order k end j c e = go (dec_lt j k)
  where
    go : Dec (j < k) → j < k
    go (yes l) = l
    go (no l) =
        let at = slice_get-get_or order k 0 (omega (arith, place_below order j c e)) in
        let z : ◌≡◌ {A = ℕ} 0 1 = cc in
        absurd (omega arith)

module _ (f : ℕ → ℕ) (m : ℕ) where
  pub nth_at : (k : ℕ) → k < m → slice_get (by_place m f) k ≡ Some (f k)
  nth_at k h =
      slice_get-get_or (by_place m f) k 0 (omega (arith, length-map-range_with_len f 0 m))
      ∙ ap (λ c. Some c) (get_or-map-range_with_len f 0 m k k 0 h (omega arith))

  pub nth_beyond : (k : ℕ) → m ≤ k → slice_get (by_place m f) k ≡ None
  nth_beyond k h = slice_get_past (by_place m f) k (omega (arith, length-map-range_with_len f 0 m))

  -- a name in the order stands at a place below m
  pub place_of : (k c : ℕ) → slice_get (by_place m f) k ≡ Some c → (k < m) × (f k ≡ c)
  place_of k c e =
      let l : k < m = omega (arith, place_below (by_place m f) k c e, length-map-range_with_len f 0 m) in
      let here = nth_at k l in
      (l, cc)
