-- Events carried out and added to a list, one after the other.
use Rattle.std.proofs.Common.{◌≡◌, ℕ, ◌+◌, ◌-◌, ◌<◌, ◌≤◌, List, [], ◌∷◌, ◌++◌, length, take, drop, Ok, Err, Result, sym, refl, ap, ◌∙◌, subst, ap₂, subst₂, arith}
use Rattle.std.proofs.lemmas.List.{append_assoc, append-nil, drop-drop, drop-set-lt, length-append, length-set, take_more_set}
use Rattle.records.specs.Lists.{Added, kept, lent}
use Rattle.records.specs.declared.Full.{Full}
use Rattle.records.specs.declared.Records.{Records}
use Rattle.benches.specs.Commands.{States}
use Rattle.machine.specs.Machine.{acts}
use Rattle.machine.specs.declared.event.Event.{Event}
use Rattle.control.specs.States.{state_of}
use Rattle.control.specs.Turns.{Did, Wrote}
use Rattle.control.specs.declared.control.Control.{Control}
use Rattle.control.proofs.Carrying.{acts_append}

-- nothing is added
pub wrote_none : (a : Records Event) → Wrote a a []
wrote_none a = record { kept = sym (append-nil (kept a)); long = omega arith; size = refl; rest = refl }

-- one event is added, since a place is free
pub wrote_one : (a b : Records Event) (x : Event) (r : Result (Unit {0}) Full) → Added a x r b → a.len < length (lent a) → Wrote a b (x ∷ [])
wrote_one a b x (Err _) (full, _, _) l = absurd (omega arith)
wrote_one a b x (Ok _) (free, len, is) l = record {
  kept = ap₂ take len is ∙ take_more_set (lent a) a.len x l;
  long = len;
  size = ap length is ∙ length-set (lent a) a.len x;
  rest = ap (drop b.len) is ∙ drop-set-lt b.len (lent a) a.len x (omega arith);
}

-- what is the same from one place on is the same from a later one on
same_further : (xs ys : List Event) (i j : ℕ) → i ≤ j → drop i xs ≡ drop i ys → drop j xs ≡ drop j ys
same_further xs ys i j l e =
    let is : i + (j - i) ≡ j = omega arith in
    ap (λ n. drop n xs) (sym is) ∙ sym (drop-drop (j - i) i xs) ∙ ap (drop (j - i)) e ∙ drop-drop (j - i) i ys ∙ ap (λ n. drop n ys) is

-- some events are added, and then others
pub wrote_append : (a b c : Records Event) (xs ys : List Event) → Wrote a b xs → Wrote b c ys → Wrote a c (xs ++ ys)
wrote_append a b c xs ys v w = record {
  kept = w.kept ∙ ap (λ zs. zs ++ ys) v.kept ∙ append_assoc (kept a) xs ys;
  long = omega (arith, v.long, w.long, length-append xs ys);
  size = w.size ∙ v.size;
  rest = w.rest ∙ same_further (lent b) (lent a) b.len c.len (omega (arith, w.long)) v.rest;
}

module _ {B F : Type 0} (means : B → States) (keeps : B → F) where
  -- nothing is done
  pub did_none : (a : Control B) (list : Records Event) → Did means keeps a a list list []
  did_none a list = record { state = refl; plan = refl; fixed = refl; wrote = wrote_none list; lender = refl }

  -- some events are carried out, and then others
  pub did_append
      : (a b c : Control B) (l m n : Records Event) (xs ys : List Event) → Did means keeps a b l m xs → Did means keeps b c m n ys
      → Did means keeps a c l n (xs ++ ys)
  did_append a b c l m n xs ys v w = record {
    state = w.state ∙ ap (λ s. acts s ys) v.state ∙ sym (acts_append xs ys (state_of means a));
    plan = w.plan ∙ v.plan;
    fixed = w.fixed ∙ v.fixed;
    wrote = wrote_append l m n xs ys v.wrote w.wrote;
    lender = w.lender ∙ v.lender;
  }

  -- the same under other names
  pub did_to
      : (a b b' : Control B) (l m m' : Records Event) (xs ys : List Event) → b' ≡ b → m' ≡ m → ys ≡ xs
      → Did means keeps a b l m xs → Did means keeps a b' l m' ys
  did_to a b b' l m m' xs ys e f k d =
      subst₂ (λ x y. Did means keeps a x l y ys) (sym e) (sym f) (subst (Did means keeps a b l m) (sym k) d)
