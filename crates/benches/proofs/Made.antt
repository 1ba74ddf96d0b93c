-- What a command answers and leaves, by what it made of a controller's byte.
use Rattle.std.proofs.Common.{◌≡◌, ℕ, ◌+◌, ◌<◌, ◌≤◌, List, length, get_or, set, None, Ok, Err, Result, sym, subst, ap, ◌∙◌}
use Rattle.std.proofs.lemmas.Bool.{cond-true, lt-ltb}
use Rattle.tasks.specs.declared.fault.BenchFault.{BenchFault}
use Rattle.tasks.specs.declared.fault.BenchFault.TheVariants.{NoController}
use Rattle.benches.specs.Commands.{by_answer, end_answer, end_on, start_answer, start_on}
use Rattle.benches.specs.Registers.{Commanded, decoded, end_bytes, made, shown_by, start_bytes}
use Rattle.benches.proofs.Commands.{start_none, end_none}

-- what a command answered and left is what the answer says
settled
    : (result a b : Result (Unit {0}) BenchFault) (after changed kept : List ℕ)
    → a ≡ b
    → (result ≡ a) × (after ≡ by_answer a changed kept)
    → (result ≡ b) × (after ≡ by_answer b changed kept)
settled result a b after changed kept e h = subst (λ x. (result ≡ x) × (after ≡ by_answer x changed kept)) e h

module _ (bytes : List ℕ) (c : ℕ) (result : Result (Unit {0}) BenchFault) (after : List ℕ) where
  -- a byte made where the answer takes the command
  by_made : (a : Result (Unit {0}) BenchFault) (byte : ℕ) → Commanded bytes c (made a byte) result after → (result ≡ a) × (after ≡ by_answer a (set bytes (c + 1) byte) bytes)
  by_made (Ok _) byte h = h
  by_made (Err _) byte h = h

  -- a start and an end at a controller that there is
  pub start_commanded
      : (row byte : ℕ)
      → c < length (shown_by bytes)
      → get_or (shown_by bytes) c None ≡ decoded byte
      → Commanded bytes c (made (start_on (decoded byte) c row) (row + 1)) result after
      → (result ≡ start_answer (shown_by bytes) c row) × (after ≡ start_bytes bytes c row)
  start_commanded row byte l shows commanded =
      settled result _ _ after _ _
      (ap (λ o. start_on o c row) (sym shows) ∙ sym (cond-true _ _ _ (lt-ltb c (length (shown_by bytes)) l)))
      (by_made (start_on (decoded byte) c row) (row + 1) commanded)

  pub end_commanded
      : (byte : ℕ)
      → c < length (shown_by bytes)
      → get_or (shown_by bytes) c None ≡ decoded byte
      → Commanded bytes c (made (end_on (decoded byte) c) 0) result after
      → (result ≡ end_answer (shown_by bytes) c) × (after ≡ end_bytes bytes c)
  end_commanded byte l shows commanded =
      settled result _ _ after _ _
      (ap (λ o. end_on o c) (sym shows) ∙ sym (cond-true _ _ _ (lt-ltb c (length (shown_by bytes)) l)))
      (by_made (end_on (decoded byte) c) 0 commanded)

  -- a start and an end at a controller that there is not
  pub start_refused
      : (row : ℕ)
      → length (shown_by bytes) ≤ c
      → (result ≡ Err (NoController c)) × (after ≡ bytes)
      → (result ≡ start_answer (shown_by bytes) c row) × (after ≡ start_bytes bytes c row)
  start_refused row g h = settled result _ _ after _ _ (start_none (shown_by bytes) c row g).answer h

  pub end_refused
      : length (shown_by bytes) ≤ c
      → (result ≡ Err (NoController c)) × (after ≡ bytes)
      → (result ≡ end_answer (shown_by bytes) c) × (after ≡ end_bytes bytes c)
  end_refused g h = settled result _ _ after _ _ (end_none (shown_by bytes) c g).answer h
