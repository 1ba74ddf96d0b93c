use Rattle.control.proofs.Writing.{wrote_one}
use Rattle.control.proofs.control.Control.note.Goals as goal

pub returns : goal.returns
returns g c = record {
  did = record {
    state = c.act.ensures.after;
    plan = c.act.ensures.plan;
    fixed = c.act.ensures.fixed;
    wrote = wrote_one c.args.events.now c.push.new.self c.args.event _ c.push.ensures.added c.requires.room;
    lender = c.push.ensures.lender;
  };
}
