use Rattle.std.proofs.Common.{◌≡◌, rules}
use Rattle.tasks.specs.Tasks.{in_range}
use Rattle.tasks.proofs.Ranges.{exactly}
use Rattle.tasks.proofs.task.Task.in_range.Goals as goal

pub returns-then-times_in_range-clause-exactly : goal.returns-then-times_in_range-clause-exactly
returns-then-times_in_range-clause-exactly c =
    let v : c.critical_in_range.result ≡ in_range c.args.self.now = search rules in
    exactly c.args.self.now c.critical_in_range.result v
