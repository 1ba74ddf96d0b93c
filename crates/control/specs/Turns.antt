-- What a tick decides before it does anything, and when what it decided can be done.
use Rattle.std.specs.Prelude.{◌≡◌, ℕ, ◌+◌, ◌<◌, Bool, cond, ◌||◌, List, [], ◌∷◌, ◌++◌, length, drop, Some, None, Ok, Option, slice_index_or}
use Rattle.records.specs.Lists.{kept, lent}
use Rattle.records.specs.declared.Records.{Records}
use Rattle.benches.specs.Commands.{States, end_answer as bench_end, start_answer as bench_start}
use Rattle.machine.specs.Below.{each_below}
use Rattle.machine.specs.Machine.{State, acts, switches, spent_on, due_on}
use Rattle.machine.specs.declared.event.Event.{Event}
use Rattle.machine.specs.declared.event.Event.TheVariants.{Switch, Cut, Start}
use Rattle.control.specs.States.{state_of}
use Rattle.control.specs.declared.control.Control.{Control}
use Rattle.control.specs.declared.turn.Turn.{Turn}
use Rattle.control.specs.declared.turn.Deed.{Deed}
use Rattle.control.specs.declared.turn.Deed.TheVariants.{End, Begin}

-- The row whose job a tick cuts on a controller, by whether it switches.
abbrev pub cut_row : Bool → State → ℕ → Option ℕ
cut_row switching s c = cond (switching || spent_on s c) (slice_index_or s.shows c None) None

-- The turn is what a tick decides.
pub record Decided (s : State) (turn : Turn) : Type 0 where
  pub switching : turn.switches ≡ switches s
  pub cuts : (c : ℕ) → c < length s.shows → slice_index_or turn.cuts c None ≡ cut_row (switches s) s c
  pub starts : (c : ℕ) → c < length s.shows → slice_index_or turn.starts c None ≡ due_on s c

-- The event of a deed.
abbrev pub event_of : Deed → ℕ → ℕ → Event
event_of End c r = Cut c r
event_of Begin c r = Start c r

-- The event of a deed on a controller, if there is a row for it.
abbrev pub event_if : Deed → ℕ → Option ℕ → List Event
event_if deed c None = []
event_if deed c (Some r) = event_of deed c r ∷ []

-- The events of a deed on the first n controllers, by rising controller.
abbrev pub deed_events : Deed → ℕ → List (Option ℕ) → List Event
deed_events deed n rows = each_below n (λ c. event_if deed c (slice_index_or rows c None))

-- The bench takes what the event asks of it.
abbrev pub Able : State → Event → Type 0
Able s Switch = Unit {0}
Able s (Cut c r) = bench_end s.shows c ≡ Ok tt
Able s (Start c r) = bench_start s.shows c r ≡ Ok tt

-- The events were added at the end of the list, and no other place changed.
pub record Wrote (before after : Records Event) (es : List Event) : Type 0 where
  pub kept : kept after ≡ kept before ++ es
  pub long : after.len ≡ before.len + length es
  pub size : length (lent after) ≡ length (lent before)
  pub rest : drop after.len (lent after) ≡ drop after.len (lent before)

-- The events were carried out and added at the end of the list; the plan is kept, and what no command changes of the bench.
pub record Did
    {B F : Type 0} (means : B → States) (keeps : B → F) (before after : Control B) (list list' : Records Event) (es : List Event)
    : Type 0 where
  pub state : state_of means after ≡ acts (state_of means before) es
  pub plan : after.plan ≡ before.plan
  pub fixed : keeps after.bench ≡ keeps before.bench
  pub wrote : Wrote list list' es
  pub lender : list'.places.ghost_name ≡ list.places.ghost_name
