-- What a list over lent places holds, and what adding a record does.
use Rattle.std.specs.Prelude.{◌≡◌, ◌+◌, ◌<◌, List, length, take, Ok, Err, Result, slice_set}
use Rattle.records.specs.declared.Full.{Full}
use Rattle.records.specs.declared.Records.{Records}

module _ {R : Type 0} where
  -- all places that were lent, taken or free
  abbrev pub lent : Records R → List R
  lent r = r.places.now

  -- the records of a list, in the order in which they were added
  abbrev pub kept : Records R → List R
  kept r = take r.len (lent r)

  -- a record is added exactly when a place is free, at the first free place, and every other place stays; else nothing changes
  abbrev pub Added : Records R → R → Result (Unit {0}) Full → Records R → Type 0
  Added before x (Ok _) next =
      (before.len < length (lent before))
      × (next.len ≡ before.len + 1)
      × (lent next ≡ slice_set (lent before) before.len x)
  Added before x (Err _) next =
      (before.len ≡ length (lent before))
      × (next.len ≡ before.len)
      × (lent next ≡ lent before)
