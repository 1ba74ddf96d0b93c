-- What a tick decided can be carried out, and is what the machine does.
use Rattle.std.proofs.Common.{◌≡◌, ℕ, ◌-◌, ◌<◌, ◌≤◌, Bool, true, false, List, ◌++◌, length, get_or, Some, None, Ok, sym, refl, ap, ◌∙◌, ap₂, arith}
use Rattle.std.specs.List.{slice_get}
use Rattle.benches.specs.Commands.{States, end_answer, start_answer}
use Rattle.benches.proofs.Commands.{end_done, start_done}
use Rattle.machine.specs.Below.{each_below, first_below}
use Rattle.machine.specs.Machine.{State, acts, blocked, cut_event, cut_on, due_at, due_on, job, mode_then, opening_then, start_event, switch_event, tick_events}
use Rattle.machine.specs.declared.event.Event.{Event}
use Rattle.machine.proofs.Basics.{first_none, first_some}
use Rattle.control.specs.Turns.{Decided, deed_events, event_if}
use Rattle.control.specs.declared.turn.Turn.{Turn}
use Rattle.control.specs.declared.turn.Deed.TheVariants.{End, Begin}
use Rattle.control.proofs.Carrying.{cut_of, cut_same, cut_shown, each_same, left_idle, shows_cut, shows_length, start_same}

-- a switch changes nothing that the bench shows
pub switch_shows : (s : State) (b : Bool) → (acts s (switch_event b)).shows ≡ s.shows
switch_shows s true = refl
switch_shows s false = refl

-- it is one event at most
pub switch_length : (b : Bool) → length (switch_event b) ≤ 1
switch_length true = omega arith
switch_length false = omega arith

module _ (s : State) (turn : Turn) (d : Decided s turn) where
  -- each job that is to be cut runs
  pub cuts_able : (states : States) → states ≡ s.shows → (c r : ℕ) → c < length states → get_or turn.cuts c None ≡ Some r → end_answer states c ≡ Ok tt
  cuts_able states e c r l k =
      let inside : c < length s.shows = omega (arith, ap length e) in
      let runs : get_or s.shows c None ≡ Some r = cut_of (cut_on s c) (get_or s.shows c None) r (sym (d.cuts c inside) ∙ k) in
      sym (end_done states c r l (ap (λ (x : States). get_or x c None) e ∙ runs)).answer

  -- each controller on which a row is to start is idle after the cuts
  pub starts_able
      : first_below (length s.shows) (blocked s) ≡ None → length s.rows ≤ 64
      → (t : State) → t.shows ≡ s.shows → (states : States) → states ≡ (acts t (deed_events End (length t.shows) turn.cuts)).shows
      → (c r : ℕ) → c < length states → get_or turn.starts c None ≡ Some r → start_answer states c r ≡ Ok tt
  starts_able free short t e states f c r l k =
      let inside : c < length s.shows = omega (arith, ap length e, ap length f, shows_length End turn.cuts t (length t.shows)) in
      let due : due_on s c ≡ Some r = sym (d.starts c inside) ∙ k in
      let row = (first_some (length s.rows) (λ i. due_at (slice_get s.rows i) (mode_then s) (s.next - opening_then s) c) r due).0 in
      let idle = left_idle (due_on s c) (cut_on s c) (get_or s.shows c None) (get_or s.since c 0) r due (first_none (length s.shows) (blocked s) free c inside) in
      let shown = shows_cut turn.cuts t c (length t.shows) (omega (arith, ap length e)) (omega arith) in
      let then : get_or states c None ≡ None =
      ap (λ (x : States). get_or x c None) f ∙ shown ∙ ap₂ cut_shown (d.cuts c inside) (ap (λ (x : States). get_or x c None) e) ∙ idle in
      sym (start_done states c r l (omega arith) then).answer

  -- the events of the turn are those of the tick
  pub events_same
      : (m n : ℕ) → m ≡ length s.shows → n ≡ length s.shows
      → switch_event turn.switches ++ (deed_events End m turn.cuts ++ deed_events Begin n turn.starts) ≡ tick_events s
  events_same m n e f =
      ap₂ (λ (b : Bool) (es : List Event). switch_event b ++ es) d.switching (ap₂ ◌++◌ cuts starts)
    where
      cuts : deed_events End m turn.cuts ≡ each_below (length s.shows) (λ c. cut_event c (cut_on s c) (job s c))
      cuts =
          ap (λ k. deed_events End k turn.cuts) e
          ∙ each_same (length s.shows) (λ c. event_if End c (get_or turn.cuts c None)) (λ c. cut_event c (cut_on s c) (job s c))
          (λ c l. ap (event_if End c) (d.cuts c l) ∙ cut_same c (cut_on s c) (get_or s.shows c None) (get_or s.since c 0))

      starts : deed_events Begin n turn.starts ≡ each_below (length s.shows) (λ c. start_event c (due_on s c))
      starts =
          ap (λ k. deed_events Begin k turn.starts) f
          ∙ each_same (length s.shows) (λ c. event_if Begin c (get_or turn.starts c None)) (λ c. start_event c (due_on s c))
          (λ c l. ap (event_if Begin c) (d.starts c l) ∙ start_same c (due_on s c))
