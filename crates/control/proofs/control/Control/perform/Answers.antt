use Rattle.std.proofs.Common.{◌≤◌, length, ap, ◌∙◌, subst, arith}
use Rattle.std.proofs.lemmas.List.{length-take}
use Rattle.planner.specs.Plans.{rows_of}
use Rattle.machine.specs.Machine.{State}
use Rattle.control.specs.States.{state_of}
use Rattle.control.specs.Turns.{Did}
use Rattle.control.specs.declared.turn.Deed.TheVariants.{End}
use Rattle.control.proofs.Carrying.{deed_length, shows_length}
use Rattle.control.proofs.Performing.{cuts_able, events_same, starts_able, switch_length, switch_shows}
use Rattle.control.proofs.Writing.{did_append}
use Rattle.control.proofs.control.Control.perform.Goals as goal

pub carry_out-requires : goal.carry_out-requires
carry_out-requires g c =
    let s = state_of g.B.Bench.meaning c.args.self.now in
    let turn = c.args.turn.now in
    let did = c.switch_if.ensures.did in
    let same = ap (λ (x : State). x.shows) did.state ∙ switch_shows s turn.switches in
    record {
      able = cuts_able s turn c.requires.decided (g.B.Bench.meaning c.switch_if.new.self.bench) same;
      room = omega (arith, did.wrote.long, did.wrote.size, switch_length turn.switches, ap length same, c.requires.room, c.requires.begun);
    }

pub carry_out-requires-2 : goal.carry_out-requires-2
carry_out-requires-2 g c =
    let s = state_of g.B.Bench.meaning c.args.self.now in
    let t = state_of g.B.Bench.meaning c.switch_if.new.self in
    let turn = c.args.turn.now in
    let plan = c.args.self.now.plan in
    let did = c.switch_if.ensures.did in
    let cut = c.carry_out.ensures.did in
    let same = ap (λ (x : State). x.shows) did.state ∙ switch_shows s turn.switches in
    let then = ap (λ (x : State). x.shows) cut.state in
    let short : length (rows_of plan) ≤ 64 = simp length-take (omega (arith, plan.short)) in
    record {
      able = starts_able s turn c.requires.decided c.requires.free short t same (g.B.Bench.meaning c.carry_out.new.self.bench) then;
      room = omega (
        arith,
        did.wrote.long,
        did.wrote.size,
        cut.wrote.long,
        cut.wrote.size,
        switch_length turn.switches,
        deed_length End turn.cuts (length t.shows),
        ap length same,
        ap length then,
        shows_length End turn.cuts t (length t.shows),
        c.requires.room,
        c.requires.begun,
      );
    }

pub returns : goal.returns
returns g c =
    let s = state_of g.B.Bench.meaning c.args.self.now in
    let t = state_of g.B.Bench.meaning c.switch_if.new.self in
    let u = state_of g.B.Bench.meaning c.carry_out.new.self in
    let turn = c.args.turn.now in
    let did = c.switch_if.ensures.did in
    let cut = c.carry_out.ensures.did in
    let same = ap (λ (x : State). x.shows) did.state ∙ switch_shows s turn.switches in
    let m = ap length same in
    let n = ap (λ (x : State). length x.shows) cut.state ∙ shows_length End turn.cuts t (length t.shows) ∙ m in
    let means = g.B.Bench.meaning in
    let keeps = g.B.Bench.fixed in
    let rest = did_append means keeps _ _ _ _ _ _ _ _ cut c.carry_out-2.ensures.did in
    let all = did_append means keeps _ _ _ _ _ _ _ _ did rest in
    record {
      did = subst (Did means keeps c.args.self.now c.carry_out-2.new.self c.args.events.now c.carry_out-2.new.events)
          (events_same s turn c.requires.decided (length t.shows) (length u.shows) m n) all;
    }
