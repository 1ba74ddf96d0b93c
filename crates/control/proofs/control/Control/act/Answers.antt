use Rattle.std.proofs.Common.{◌≡◌, get_or, rules, of_calls}
use Rattle.machine.specs.Machine.{none_yet, with_cut, with_start}
use Rattle.control.proofs.Changed.{changed_by}
use Rattle.control.proofs.control.Control.act.Goals as goal

pub returns-then-is_ok-clause-after : goal.returns-then-is_ok-clause-after
returns-then-is_ok-clause-after g c =
    let t = c.args.self.now.tallies in
    let r = c.in-Cut.row in
    let counted = changed_by t none_yet r with_cut c.change.new.self.records
    (λ l. let (next, given, then) = c.change.ensures.there l none_yet in let is : next ≡ with_cut (get_or t.records r none_yet) = search (of_calls, rules) in (next, is, then))
    c.change.ensures.beyond in
    search rules

pub returns-then-is_ok-2-clause-after : goal.returns-then-is_ok-2-clause-after
returns-then-is_ok-2-clause-after g c =
    let t = c.args.self.now.tallies in
    let r = c.in-Start.row in
    let counted = changed_by t none_yet r with_start c.change-then-is_ok-2.new.self.records
    (λ l. let (next, given, then) = c.change-then-is_ok-2.ensures.there l none_yet in let is : next ≡ with_start (get_or t.records r none_yet) = search (of_calls, rules) in (next, is, then))
    c.change-then-is_ok-2.ensures.beyond in
    search rules
