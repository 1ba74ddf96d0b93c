use Rattle.std.proofs.Common.{◌≡◌, List, length, ap, ◌∙◌, rules}
use Rattle.records.specs.Lists.{lent}
use Rattle.machine.specs.Machine.{tick_answer}
use Rattle.machine.specs.declared.event.Event.{Event}
use Rattle.control.specs.States.{state_of}
use Rattle.runs.specs.Runs.{places_after}
use Rattle.runs.proofs.Ticking.{places_after_events, same_lender}
use Rattle.runs.proofs.sending.tick_into.Goals as goal

pub returns-clause-written : goal.returns-clause-written
returns-clause-written g c =
    let s = state_of g.B.Bench.meaning c.args.control.now in
    let list = c.new-list.result in
    let then = c.tick.new.events in
    let told = c.tick.ensures.events in
    let same : lent list ≡ c.args.events.now = ap (λ p. p.now) c.new-list.ensures.same in
    let lender : then.places.ghost_name ≡ list.places.ghost_name = same_lender list then (tick_answer s (length (lent list))) told in
    let is : lent then ≡ places_after (tick_answer s (length c.args.events.now)) c.args.events.now =
    places_after_events list then (tick_answer s (length (lent list))) told ∙ ap (λ (xs : List Event). places_after (tick_answer s (length xs)) xs) same in
    search rules
