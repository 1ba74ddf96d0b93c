use Rattle.std.proofs.Common.{◌<◌, get_or, None, arith, rules, of_calls, ◌≡◌, ℕ, ◌-◌, sym, ap, ◌∙◌, ap₂}
use Rattle.tasks.specs.Modes.{number}
use Rattle.machine.specs.Machine.{due_in, mode_then, opening_then, switches}
use Rattle.control.specs.States.{state_of}
use Rattle.control.proofs.Deciding.{switched, unswitched}
use Rattle.control.proofs.control.Control.decide.Goals as goal
use Rattle.control.proofs.control.Control.decide.Goals.{then-switches, else-switches}

pub returns : goal.returns
returns g c =
    let control = c.args.self.now in
    let s = state_of g.B.Bench.meaning control in
    let is = c.switches-switches.ensures.value in
    let force = c.if-switches.mode in
    let then : (number force.0 ≡ mode_then s) × (force.1 ≡ opening_then s) = elim c.if-switches.branch [
      | then-switches w ↦ switched (switches s) force control.mode control.next control.opening (sym is ∙ w.if-switches.true) w.mode-is
      | else-switches w ↦ unswitched (switches s) force control.mode control.next control.opening (sym is ∙ w.if-switches.false) w.mode-is
    ] in
    let elapsed = c.saturating_sub-elapsed.ensures ∙ ap (λ (o : ℕ). control.next - o) then.1 in
    record {
      decided = record {
        switching = is;
        cuts = λ k l.
            let below : k < 8 = omega (arith, g.B.Bench.few control.bench) in
            let e = c.by_controller.ensures.each k below (omega (arith, l, c.count-count.ensures.value)) in
            search (of_calls, rules);
        starts = λ k l.
            let below : k < 8 = omega (arith, g.B.Bench.few control.bench) in
            let e = c.by_controller-2.ensures.each k below (omega (arith, l, c.count-count.ensures.value)) in
            let due : get_or c.by_controller-2.result k None ≡ due_in s.rows (number force.0) c.saturating_sub-elapsed.result k = search (of_calls, rules) in
            due ∙ ap₂ (λ (m e : ℕ). due_in s.rows m e k) then.0 elapsed;
      };
    }
