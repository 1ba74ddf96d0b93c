-- What the table of controllers holds.
use Rattle.std.specs.Prelude.{ℕ, List, map}
use Rattle.control.specs.declared.jobs.ControllerRecord.{ControllerRecord}
use Rattle.control.specs.declared.table.Table.{Table}

-- By controller, the instant at which the present job started.
abbrev pub since_of : Table ControllerRecord 8 → List ℕ
since_of jobs = map (λ (r : ControllerRecord). r.since) jobs.records
