-- A loop that sends the calls one after the other: what the history and the state are after one call more.
use Rattle.std.proofs.Common.{◌≡◌, ℕ, ◌+◌, ◌<◌, List, [], ◌∷◌, ◌++◌, length, get_or, take, refl, ap, ◌∙◌}
use Rattle.std.proofs.lemmas.List.{take_more}
use Rattle.machine.specs.declared.entry.Call.{Call}
use Rattle.machine.specs.declared.entry.Entry.{Entry}
use Rattle.machine.specs.Entries.{entry}
use Rattle.machine.specs.Machine.{State, answer, after, run, at_end}

-- The history of more calls is that of the first, and then that of the others from the state that those leave.
run_append : (calls more : List Call) (s : State) → run s (calls ++ more) ≡ run s calls ++ run (at_end s calls) more
run_append [] more s = refl
run_append (call ∷ calls) more s =
    ap (λ (es : List Entry). entry call (answer s call) ∷ es) (run_append calls more (after s call))

-- The state that more calls leave is the one that the others leave from there.
end_append : (calls more : List Call) (s : State) → at_end s (calls ++ more) ≡ at_end (at_end s calls) more
end_append [] more s = refl
end_append (call ∷ calls) more s = end_append calls more (after s call)

module _ (s : State) (calls : List Call) (i : ℕ) (call : Call) (l : i < length calls) where
  -- The history has one entry more.
  pub run_more
      : run s (take (i + 1) calls)
      ≡ run s (take i calls) ++ (entry (get_or calls i call) (answer (at_end s (take i calls)) (get_or calls i call)) ∷ [])
  run_more = ap (run s) (take_more calls i call l) ∙ run_append (take i calls) (get_or calls i call ∷ []) s

  -- The state is what the call leaves.
  pub end_more : at_end s (take (i + 1) calls) ≡ after (at_end s (take i calls)) (get_or calls i call)
  end_more = ap (at_end s) (take_more calls i call l) ∙ end_append (take i calls) (get_or calls i call ∷ []) s
