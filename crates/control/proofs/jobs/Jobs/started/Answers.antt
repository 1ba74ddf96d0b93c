use Rattle.std.proofs.Common.{◌≡◌, ap, ◌∙◌, map, rules, of_calls}
use Rattle.std.proofs.lemmas.List.{map-set}
use Rattle.control.specs.declared.jobs.ControllerRecord.{ControllerRecord}
use Rattle.control.proofs.Changed.{changed_by}
use Rattle.control.proofs.jobs.Jobs.started.Goals as goal

pub returns : goal.returns
returns c =
    let t = c.args.self.now in
    let at = c.args.controller in
    let new : ControllerRecord = record { since = c.args.since } in
    let changed = changed_by t new at (λ _. new) c.change.new.self.records
    (λ l. let (next, given, then) = c.change.ensures.there l new in let is : next ≡ new = search (of_calls, rules) in (next, is, then))
    c.change.ensures.beyond in
    record { after = ap (map (λ (r : ControllerRecord). r.since)) changed ∙ map-set (λ (r : ControllerRecord). r.since) t.records at new }
