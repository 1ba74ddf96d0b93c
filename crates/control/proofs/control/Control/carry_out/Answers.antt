use Rattle.std.proofs.Common.{◌≡◌, ℕ, [], ◌∷◌, length, get_or, None, sym, ap, ◌∙◌, subst, arith}
use Rattle.machine.specs.Machine.{State}
use Rattle.machine.specs.declared.event.Event.{Event}
use Rattle.control.specs.States.{state_of}
use Rattle.control.specs.Turns.{Able, Did, deed_events, event_if}
use Rattle.control.proofs.Carrying.{able_along, deed_length, deed_more, shows_above, shows_length}
use Rattle.control.proofs.Writing.{did_append, did_none, did_to}
use Rattle.control.proofs.control.Control.carry_out.Goals as goal
use Rattle.control.proofs.control.Control.carry_out.Goals.{in-Some, in_default}

pub note-requires : goal.note-requires
note-requires g c =
    let s = state_of g.B.Bench.meaning c.args.self.now in
    let t = state_of g.B.Bench.meaning c.loop-c.self in
    let deed = c.args.deed in
    let rows = c.args.rows.now in
    let i = c.loop-c.c in
    let did = c.loop-c.invariant.0 in
    let len = ap (λ (x : State). length x.shows) did.state ∙ shows_length deed rows s i in
    let same = ap (λ (x : State). get_or x.shows i None) did.state ∙ shows_above deed rows s i i (omega arith) in
    let able = able_along deed s t i c.in-Some.row len same (c.requires.able i c.in-Some.row (omega arith) (ap (λ (k : ℕ). get_or rows k None) (sym c.from.ensures) ∙ c.in-Some.is)) in
    record {
      able = subst (Able t) (sym c.event.ensures.value) able;
      room = omega (arith, did.wrote.long, did.wrote.size, deed_length deed rows i, c.requires.room);
    }

pub loop-c-preserved : goal.loop-c-preserved
loop-c-preserved g c =
    let deed = c.args.deed in
    let rows = c.args.rows.now in
    let i = c.loop-c.c in
    let at : get_or rows i None ≡ get_or rows c.from.result None = ap (λ (k : ℕ). get_or rows k None) (sym c.from.ensures) in
    let one : Did g.B.Bench.meaning g.B.Bench.fixed c.loop-c.self c.match-held.self c.loop-c.events c.match-held.events (event_if deed i (get_or rows i None)) =
    elim c.match-held.branch [
      | in-Some w ↦ did_to g.B.Bench.meaning g.B.Bench.fixed _ _ _ _ _ _ _ (event_if deed i (get_or rows i None)) w.self-is w.events-is
          (ap (event_if deed i) (at ∙ w.in-Some.is) ∙ ap (λ (e : Event). e ∷ []) (sym w.event.ensures.value)) w.note.ensures.did
      | in_default w ↦ did_to g.B.Bench.meaning g.B.Bench.fixed _ _ _ _ _ _ _ (event_if deed i (get_or rows i None)) w.self-is w.events-is
          (ap (event_if deed i) (at ∙ w.in_default.is)) (did_none g.B.Bench.meaning g.B.Bench.fixed c.loop-c.self c.loop-c.events)
    ] in (
      subst (Did g.B.Bench.meaning g.B.Bench.fixed c.args.self.now c.match-held.self c.args.events.now c.match-held.events) (sym (deed_more deed i rows))
          (did_append g.B.Bench.meaning g.B.Bench.fixed c.args.self.now c.loop-c.self c.match-held.self c.args.events.now c.loop-c.events c.match-held.events
          (deed_events deed i rows) (event_if deed i (get_or rows i None)) c.loop-c.invariant.0 one),
      omega arith,
    )

pub returns : goal.returns
returns g c =
    let all : c.loop-c.c ≡ length (g.B.Bench.meaning c.args.self.now.bench) = omega arith in
    record {
      did = subst (λ (n : ℕ). Did g.B.Bench.meaning g.B.Bench.fixed c.args.self.now c.loop-c.self c.args.events.now c.loop-c.events (deed_events c.args.deed n c.args.rows.now))
          all c.loop-c.invariant.0;
    }
