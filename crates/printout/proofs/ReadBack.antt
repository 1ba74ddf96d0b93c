-- The line of a refusal tells it again.
use Rattle.std.proofs.Common.{◌≡◌, ℕ, ◌%◌, ◌<◌, List, sym, ◌∙◌, subst, mod-eq_of_lt, lit<}
use Rattle.std.proofs.lemmas.Nat.{div_below, mod_below}
use Rattle.digits.proofs.Printed.{read_back, word_back}
use Rattle.printout.specs.Texts.{ReadsBack, refusal_text}

module _ (number layer place : ℕ) (n : number < 256) (l : layer < 256) where
  told : ReadsBack number layer place (refusal_text number layer place)
  told = record {
    same_number = read_back number n;
    same_layer = read_back layer l;
    same_place = λ p. word_back (place % 65536) (div_below (place % 65536) 256 256 (lit< tt) (mod_below place 65536 (lit< tt))) ∙ mod-eq_of_lt p;
  }

  -- so does whatever is that line
  pub reads_back : (digits : List ℕ) → digits ≡ refusal_text number layer place → ReadsBack number layer place digits
  reads_back digits e = subst (ReadsBack number layer place) (sym e) told
