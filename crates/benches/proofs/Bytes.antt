-- What the bytes of a register bench show, before and after a command.
use Rattle.std.proofs.Common.{◌≡◌, ℕ, ◌+◌, ◌-◌, ◌<◌, min, ◌≢◌, List, map, length, get_or, take, drop, set, Some, None, Ok, Err, Result, sym, refl, ap, ◌∙◌, ⊎_elim, add_comm, add-one, arith, length-drop, length-set, get_or-set_other, get_or-take}
use lib.Seq.{take-set-lt}
use Rattle.std.proofs.lemmas.List.{length-take, length-map, get_or-map, get_or-drop, drop-set-add, drop-set-lt, map-set}
use Rattle.std.proofs.lemmas.Bool.{cases_lt}
use Rattle.tasks.specs.declared.fault.BenchFault.{BenchFault}
use Rattle.benches.specs.Commands.{States, by_answer, start_answer, start_after, end_answer, end_after}
use Rattle.benches.specs.Registers.{decoded, shown_by, few_shown, around, start_bytes, end_bytes}
use Rattle.benches.proofs.Commands.{start_none, end_none}

-- how many controllers the bytes have
length_shown : (bs : List ℕ) → length (shown_by bs) ≡ min 8 (length bs - 1)
length_shown bs = simp (length-map, length-take, length-drop)

-- what a controller does, by its byte
pub shown_at : (bs : List ℕ) (c : ℕ) → c < length (shown_by bs) → get_or (shown_by bs) c None ≡ decoded (get_or bs (c + 1) 0)
shown_at bs c h =
    let n = length_shown bs in
    let l : c < length (take 8 (drop 1 bs)) = simp (length-take, length-drop) (omega arith) in
    get_or-map decoded (take 8 (drop 1 bs)) c 0 None l
    ∙ ap decoded (get_or-take 8 (drop 1 bs) c 0 (omega arith) ∙ get_or-drop 1 bs c 0 ∙ ap (λ k. get_or bs k 0) (add_comm 1 c))

-- a controller's byte changed changes what that controller does
shown_set : (bs : List ℕ) (c v : ℕ) → c < 8 → shown_by (set bs (c + 1) v) ≡ set (shown_by bs) c (decoded v)
shown_set bs c v h =
    ap (λ k. shown_by (set bs k v)) (add_comm c 1)
    ∙ ap (λ xs. map decoded (take 8 xs)) (drop-set-add 1 bs c v)
    ∙ ap (map decoded) (take-set-lt 8 (drop 1 bs) c v h)
    ∙ map-set decoded (take 8 (drop 1 bs)) c v

-- the byte of a controller that is busy with a row
decoded_suc : (row : ℕ) → decoded (row + 1) ≡ Some row
decoded_suc row = rw add-one

-- what the controllers do after a command, by the bytes after it
shown_after : (r : Result (Unit {0}) BenchFault) (xs ys : List ℕ) (z : States) → shown_by xs ≡ z → shown_by (by_answer r xs ys) ≡ by_answer r z (shown_by ys)
shown_after (Ok _) xs ys z e = e
shown_after (Err _) xs ys z e = refl

-- the bytes after a start show what the controllers do after it
pub start_shown : (bs : List ℕ) (c row : ℕ) → shown_by (start_bytes bs c row) ≡ start_after (shown_by bs) c row
start_shown bs c row =
    let m = shown_by bs in
    let few = few_shown bs in
    ⊎_elim
    (λ l. shown_after (start_answer m c row) _ _ _ (shown_set bs c (row + 1) (omega arith) ∙ ap (set m c) (decoded_suc row)))
    (λ g. let s = start_none m c row g in ap (λ r. shown_by (by_answer r (set bs (c + 1) (row + 1)) bs)) (sym s.answer) ∙ s.after)
    (cases_lt c (length m))

-- the bytes after an end show what the controllers do after it
pub end_shown : (bs : List ℕ) (c : ℕ) → shown_by (end_bytes bs c) ≡ end_after (shown_by bs) c
end_shown bs c =
    let m = shown_by bs in
    let few = few_shown bs in
    ⊎_elim
    (λ l. shown_after (end_answer m c) _ _ _ (shown_set bs c 0 (omega arith)))
    (λ g. let s = end_none m c g in ap (λ r. shown_by (by_answer r (set bs (c + 1) 0) bs)) (sym s.answer) ∙ s.after)
    (cases_lt c (length m))

-- a controller's byte is none of those that no command changes
around_set : (n : ℕ) (bs : List ℕ) (c v : ℕ) → c < 8 → around n (set bs (c + 1) v) ≡ around n bs
around_set n bs c v l =
    let ne : 0 ≢ c + 1 = omega arith in
    let size = length-set bs (c + 1) v in
    let interlock = get_or-set_other bs (c + 1) 0 v 0 ne in
    let beyond = drop-set-lt 9 bs (c + 1) v (omega arith) in
    cc

-- what is around the bytes after a command, taken or refused
around_by : (n : ℕ) (r : Result (Unit {0}) BenchFault) (xs ys : List ℕ) → around n xs ≡ around n ys → around n (by_answer r xs ys) ≡ around n ys
around_by n (Ok _) xs ys e = e
around_by n (Err _) xs ys e = refl

-- a start changes nothing around
pub start_around : (n : ℕ) (bs : List ℕ) (c row : ℕ) → around n (start_bytes bs c row) ≡ around n bs
start_around n bs c row =
    let few = few_shown bs in
    ⊎_elim
    (λ l. around_by n (start_answer (shown_by bs) c row) _ _ (around_set n bs c (row + 1) (omega arith)))
    (λ g. let s = start_none (shown_by bs) c row g in ap (λ r. around n (by_answer r (set bs (c + 1) (row + 1)) bs)) (sym s.answer))
    (cases_lt c (length (shown_by bs)))

-- an end changes nothing around
pub end_around : (n : ℕ) (bs : List ℕ) (c : ℕ) → around n (end_bytes bs c) ≡ around n bs
end_around n bs c =
    let few = few_shown bs in
    ⊎_elim
    (λ l. around_by n (end_answer (shown_by bs) c) _ _ (around_set n bs c 0 (omega arith)))
    (λ g. let s = end_none (shown_by bs) c g in ap (λ r. around n (by_answer r (set bs (c + 1) 0) bs)) (sym s.answer))
    (cases_lt c (length (shown_by bs)))
