-- What a control keeps and its bench shows, as a state of the machine.
use Rattle.tasks.specs.Modes.{number}
use Rattle.planner.specs.Plans.{rows_of}
use Rattle.benches.specs.Commands.{States}
use Rattle.machine.specs.Machine.{State}
use Rattle.control.specs.Tables.{since_of}
use Rattle.control.specs.declared.control.Control.{Control}

-- The state of a control over a bench that means this.
abbrev pub state_of : {B : Type 0} → (B → States) → Control B → State
state_of meaning control = record {
  controllers = control.plan.controllers;
  rows = rows_of control.plan;
  mode = number control.mode;
  opening = control.opening;
  next = control.next;
  shows = meaning control.bench;
  since = since_of control.jobs;
  counts = control.tallies.records;
}
