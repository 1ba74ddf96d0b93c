-- A call with its answer makes an entry. What answers are made of.
use Rattle.std.specs.Prelude.{ℕ, zero, suc, ◌-◌, List, ◌++◌, length, take, replicate, Err, Result}
use Rattle.tasks.specs.Refusals.{refusal}
use Rattle.tasks.specs.declared.reason.Layer.{Layer}
use Rattle.tasks.specs.declared.reason.Reason.{Reason}
use Rattle.tasks.specs.declared.refusal.Refusal.{Refusal}
use Rattle.tasks.specs.declared.mode.Mode.{Mode}
use Rattle.tasks.specs.declared.mode.Mode.TheVariants.{Everyday, Critical}
use Rattle.machine.specs.declared.event.Event.{Event}
use Rattle.machine.specs.declared.event.Event.TheVariants.{Switch}
use Rattle.machine.specs.declared.event.Written.{Written}
use Rattle.machine.specs.declared.entry.Call.{Call}
use Rattle.machine.specs.declared.entry.Reply.{Reply}
use Rattle.machine.specs.declared.entry.Entry.{Entry}

-- A job: its row, and the instant at which it started.
pub record Job : Type 0 where
  pub row : ℕ
  pub since : ℕ

-- The events as an answer holds them, in 17 places: what is left over holds a switch.
abbrev pub written : List Event → Written
written es = record { count = length es; events = es ++ replicate (17 - length es) Switch }

-- The events that an answer holds.
abbrev pub events_of : Written → List Event
events_of w = take w.count w.events

-- What came of a call: what is told where it is accepted, or its refusal.
abbrev pub Answer : Type 0
Answer = Result Reply Refusal

-- Sent back with this reason, layer and place.
abbrev pub refuse : Reason → Layer → ℕ → Answer
refuse reason layer place = Err (refusal reason layer place)

-- The mode with this number.
abbrev pub mode_of : ℕ → Mode
mode_of zero = Everyday
mode_of (suc _) = Critical

-- A call with its answer.
abbrev pub entry : Call → Answer → Entry
entry call a = record { call = call; answer = a }
