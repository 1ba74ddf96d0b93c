use Rattle.std.proofs.Common.{◌≡◌, refl, ap, ◌∙◌, sym, rules, of_calls, get_or}
use Rattle.machine.specs.Machine.{count_for, none_yet, with_report}
use Rattle.machine.specs.declared.entry.Call.TheVariants.{Report}
use Rattle.control.proofs.Calling.{carried}
use Rattle.control.proofs.Changed.{changed_by}
use Rattle.control.proofs.Ending.{refused_end, taken_end}
use Rattle.control.proofs.control.Control.report.Goals as goal

pub returns-in_err-row : goal.returns-in_err-row
returns-in_err-row g c =
    let f = c.in_err-row.field-0.0 in
    let (none, steps) = refused_end g.B.Bench.meaning g.B.Bench.fixed c.args.self.now c.end.new.self c.args.controller _ c.end.ensures.ends
    (Report c.args.controller) f (sym c.in_err-row.was) refl in
    record { answer = carried c.from_residual.result f c.from_residual.ensures.1 ∙ sym none; steps = steps }

pub returns-in-Some : goal.returns-in-Some
returns-in-Some g c =
    let t = c.end.new.self.tallies in
    let r = c.in-Some.row in
    let counted = changed_by t none_yet r with_report c.change.new.self.records
    (λ l. let (next, given, then) = c.change.ensures.there l none_yet in let is : next ≡ with_report (get_or t.records r none_yet) = search (of_calls, rules) in (next, is, then))
    c.change.ensures.beyond in
    let (done, steps) = taken_end g.B.Bench.meaning g.B.Bench.fixed c.args.self.now c.end.new.self c.args.controller _ c.end.ensures.ends
    (Report c.args.controller) c.in_ok-row.field-0 (sym c.in_ok-row.was) refl with_report refl c.change.new.self (counted ∙ ap (λ o. count_for t.records o with_report) (sym c.in-Some.is)) in
    record { answer = done; steps = steps }
