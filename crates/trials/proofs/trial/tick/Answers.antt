use Rattle.std.proofs.Common.{◌≡◌, ◌-◌, ◌++◌, List, length, replicate, Ok, ap, ap₂, ◌∙◌, arith}
use Rattle.std.proofs.lemmas.List.{drop-replicate, length-take}
use Rattle.machine.specs.Entries.{entry}
use Rattle.machine.specs.declared.entry.Call.TheVariants.{Tick}
use Rattle.machine.specs.declared.entry.Reply.TheVariants.{Ticked}
use Rattle.machine.specs.declared.event.Event.{Event}
use Rattle.machine.specs.declared.event.Event.TheVariants.{Switch}
use Rattle.trials.proofs.trial.tick.Goals as goal

pub returns : goal.returns
returns g c =
    let copied = c.copy_from_slice.ensures.after in
    let long : g.row.N ≡ length c.args.events =
    omega (arith, c.copy_from_slice.ensures.len, ap length copied, length-take g.row.N (replicate 17 Switch), c.requires.few) in
    record {
      value = ap₂ (λ n (es : List Event). entry (Tick c.args.places) (Ok (Ticked (record { count = n; events = es })))) long
          (ap₂ (λ (xs ys : List Event). xs ++ ys) copied (drop-replicate g.row.N 17 Switch ∙ ap (λ k. replicate (17 - k) Switch) long));
    }
