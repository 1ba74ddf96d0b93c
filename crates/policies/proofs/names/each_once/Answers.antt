use Rattle.std.proofs.Common.{◌≡◌, ℕ, ◌+◌, ◌<◌, Bool, true, false, not, ◌&&◌, ◌==◌, nat_lt, List, T, length, take, get_or, sym, ap, ◌∙◌, subst, rules, tests, arith}
use Rattle.std.specs.List.{AllPass, list_all, list_any, enumerate_from}
use Rattle.std.proofs.lemmas.Bool.{ltb-true, lt-ltb, eq-eqb, ne_eqb, and_parts, and_from, not-true, both_ways}
use Rattle.std.proofs.lemmas.List.{length-take, get_or-take, get_or_default}
use Rattle.std.proofs.lemmas.List.FromFn.{get_or-enumerate_from, length-enumerate_from}
use Rattle.std.proofs.lemmas.List.Folds.{list_any_at, list_any_none}
use Rattle.std.proofs.lemmas.List.Sums.{AllPass-from_list_all, list_all-from_AllPass}
use Rattle.std.proofs.lemmas.Iterator.{YieldsList-from_slice}
use Rattle.std.proofs.lemmas.Iterator.Consumers.{YieldsList-from_enumerate}
use Rattle.std.proofs.lemmas.Iterator.Search.{all_from_yields_List}
use Rattle.policies.specs.Names.{EachApart, EachOnce}
use Rattle.policies.proofs.names.each_once.Goals as goal

-- whether a name is below the length and stands at no place before its own
abbrev stands_once : List ℕ → ℕ × ℕ → Bool
stands_once list (i, name) = nat_lt name (length list) && not (list_any (λ y. y == name) (take i list))

module _ (list : List ℕ) where
  -- what stands at a place, with the place
  pair_at : (k : ℕ) (d : ℕ × ℕ) → k < length list → get_or (enumerate_from 0 list) k d ≡ (k, get_or list k 0)
  pair_at k d l =
      let from_zero : 0 + k ≡ k = omega arith in
      let name = get_or_default list k d.1 0 l in
      get_or-enumerate_from 0 list k d l ∙ cc

  -- a list of which each name passes names each number once
  passes_once : AllPass (stands_once list) (enumerate_from 0 list) → EachOnce list
  passes_once passed = (λ k l. ltb-true _ _ (parts k l).0, apart)
    where
      parts : (k : ℕ) → k < length list → (nat_lt (get_or list k 0) (length list) ≡ true) × (not (list_any (λ y. y == get_or list k 0) (take k list)) ≡ true)
      parts k l =
          let there : k < length (enumerate_from 0 list) = omega (arith, length-enumerate_from 0 list) in
          and_parts _ _ (sym (ap (stands_once list) (pair_at k (0, 0) l)) ∙ passed k (0, 0) there)

      apart : EachApart (length list) list
      apart j k a l e =
          let before : j < length (take k list) = omega (arith, length-take k list) in
          let found = list_any_at (λ y. y == get_or list k 0) (take k list) j 0 before (eq-eqb _ _ (get_or-take k list j 0 a ∙ e)) in
          both_ways _ (not-true _ (parts k l).1) found

  -- and the other way round
  once_passes : EachOnce list → AllPass (stands_once list) (enumerate_from 0 list)
  once_passes (below, apart) k d l = ap (stands_once list) (pair_at k d there) ∙ and_from _ _ (lt-ltb _ _ (below k there)) (ap not new)
    where
      there : k < length list
      there = omega (arith, length-enumerate_from 0 list)

      new : list_any (λ y. y == get_or list k 0) (take k list) ≡ false
      new =
          list_any_none (λ y. y == get_or list k 0) (take k list)
          (λ j e h. let a : j < k = omega (arith, length-take k list) in ne_eqb _ _ (λ is. apart j k a there (get_or_default list j 0 e (omega (arith, there)) ∙ sym (get_or-take k list j e a) ∙ is)))

pub returns : goal.returns
returns c =
    let list = c.args.list.now in
    let is : c.all.result ≡ list_all (stands_once list) (enumerate_from 0 list) = all_from_yields_List (stands_once list) _ _ _ c.all.ensures.ran (YieldsList-from_enumerate (YieldsList-from_slice list cc) cc) (λ x b q k. search (rules, tests)) in
    record {
      once = (
        λ passed. passes_once list (AllPass-from_list_all _ _ (sym is ∙ search rules)),
        λ once. subst T (sym (is ∙ list_all-from_AllPass _ _ (once_passes list once))) tt,
      );
    }
