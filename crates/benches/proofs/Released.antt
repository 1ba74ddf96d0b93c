-- What a command leaves when its interlock is gone, by what it left while the interlock held.
use Rattle.std.proofs.Common.{◌≡◌, ℕ, ◌+◌, ◌<◌, ◌≢◌, List, [], ◌∷◌, length, slice_index, set, Ok, Err, Result, sym, refl, ap, ◌∙◌, arith}
use Rattle.std.proofs.lemmas.List.{set_comm}
use Rattle.tasks.specs.declared.fault.BenchFault.{BenchFault}
use Rattle.benches.specs.Commands.{by_answer, start_answer, end_answer}
use Rattle.benches.specs.Registers.{shown_by, start_bytes, end_bytes}

-- an interlock that is gone leaves the bytes that were there
pub put_back : (bs : List ℕ) → 0 < length bs → set (set bs 0 1) 0 (slice_index bs 0) ≡ bs
put_back [] l = absurd (omega (arith, l))
put_back (x ∷ bs) l = refl

-- byte 0 is no controller's
pub shown_released : (bs : List ℕ) (b : ℕ) → shown_by (set bs 0 b) ≡ shown_by bs
shown_released [] b = refl
shown_released (x ∷ bs) b = refl

-- byte 0 put back after a command is byte 0 put back before it
released
    : (r : Result (Unit {0}) BenchFault) (bs : List ℕ) (b c v : ℕ)
    → set (by_answer r (set bs (c + 1) v) bs) 0 b ≡ by_answer r (set (set bs 0 b) (c + 1) v) (set bs 0 b)
released (Ok _) bs b c v = let ne : c + 1 ≢ 0 = omega arith in set_comm bs (c + 1) 0 v b ne
released (Err _) bs b c v = refl

pub start_released : (bs : List ℕ) (b c row : ℕ) → set (start_bytes bs c row) 0 b ≡ start_bytes (set bs 0 b) c row
start_released bs b c row =
    released (start_answer (shown_by bs) c row) bs b c (row + 1)
    ∙ ap (λ m. by_answer (start_answer m c row) (set (set bs 0 b) (c + 1) (row + 1)) (set bs 0 b)) (sym (shown_released bs b))

pub end_released : (bs : List ℕ) (b c : ℕ) → set (end_bytes bs c) 0 b ≡ end_bytes (set bs 0 b) c
end_released bs b c =
    released (end_answer (shown_by bs) c) bs b c 0
    ∙ ap (λ m. by_answer (end_answer m c) (set (set bs 0 b) (c + 1) 0) (set bs 0 b)) (sym (shown_released bs b))
