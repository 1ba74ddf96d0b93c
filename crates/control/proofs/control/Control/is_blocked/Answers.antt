use Rattle.std.proofs.Common.{get_or, is_some, None, sym, ap, ◌∙◌}
use Rattle.machine.specs.Machine.{cut_on, due_on}
use Rattle.control.specs.States.{state_of}
use Rattle.control.proofs.Deciding.{cut_away, stays}
use Rattle.control.proofs.control.Control.is_blocked.Goals as goal

pub returns-then-is_some : goal.returns-then-is_some
returns-then-is_some g c =
    let s = state_of g.B.Bench.meaning c.args.self.now in
    let i = c.args.controller in
    let cut = ap is_some (sym (c.requires.decided.cuts i c.requires.there)) ∙ ap (λ k. is_some (get_or c.args.turn.now.cuts k None)) (sym c.from-at.ensures) ∙ sym c.if-is_some.ensures in
    record { value = cut_away (due_on s i) (cut_on s i) (get_or s.shows i None) (get_or s.since i 0) cut }

pub returns : goal.returns
returns g c =
    let s = state_of g.B.Bench.meaning c.args.self.now in
    let i = c.args.controller in
    let due = ap is_some (sym (c.requires.decided.starts i c.requires.there)) ∙ ap (λ k. is_some (get_or c.args.turn.now.starts k None)) (sym c.from-at.ensures) ∙ c.if-is_none.ensures in
    let cut = ap is_some (sym (c.requires.decided.cuts i c.requires.there)) ∙ ap (λ k. is_some (get_or c.args.turn.now.cuts k None)) (sym c.from-at.ensures) ∙ sym c.if-is_some.ensures in
    record {
      value = c.is_some-2.ensures ∙ ap is_some c.row_on.ensures.value
          ∙ stays (due_on s i) (cut_on s i) (get_or s.shows i None) (get_or s.since i 0) due cut;
    }
