-- How a job is ended: the bench is told first, then the job is counted for its row.
use Rattle.std.proofs.Common.{◌≡◌, ℕ, get_or, set, None, Ok, Err, Option, Result, sym, refl, ap, ◌∙◌, ap₂, arith}
use Rattle.tasks.specs.Modes.{number}
use Rattle.tasks.specs.declared.fault.ControlFault.{ControlFault}
use Rattle.planner.specs.Plans.{rows_of}
use Rattle.benches.specs.Commands.{States}
use Rattle.machine.specs.Machine.{State, answer, answered, by_result, count_for, end_answer, ended, settle}
use Rattle.machine.specs.declared.entry.Call.{Call}
use Rattle.machine.specs.declared.entry.Counts.{Counts}
use Rattle.machine.specs.declared.entry.Reply.TheVariants.{Done}
use Rattle.control.specs.Calls.{Ends, Steps, row_ended}
use Rattle.control.specs.States.{state_of}
use Rattle.control.specs.Tables.{since_of}
use Rattle.control.specs.declared.control.Control.{Control}
use Rattle.control.specs.declared.table.Table.{Table}
use Rattle.control.proofs.Calling.{refused}

err_back : (row : Option ℕ) (fault : ControlFault) (r : Result (Unit {0}) ControlFault) → Err fault ≡ row_ended row r → r ≡ Err fault
err_back row fault (Ok u) e = absurd (let z : ◌≡◌ {A = ℕ} 0 1 = cc in omega arith)
err_back row fault (Err f) e = let same : f ≡ fault = cc in ap Err same

ok_back : (row held : Option ℕ) (r : Result (Unit {0}) ControlFault) → Ok held ≡ row_ended row r → (r ≡ Ok tt) × (held ≡ row)
ok_back row held (Ok u) e = let same : held ≡ row = cc in (refl, same)
ok_back row held (Err f) e = absurd (let z : ◌≡◌ {A = ℕ} 0 1 = cc in omega arith)

module _ {B F : Type 0} (means : B → States) (keeps : B → F) (a b : Control B) (c : ℕ) (r : Result (Option ℕ) ControlFault) (d : Ends means keeps a b c r) where
  abbrev s : State
  s = state_of means a

  -- the same control over the other bench, with other counts
  abbrev with_counts : Table Counts 64 → Control B
  with_counts t = record { bench = b.bench; plan = b.plan; mode = b.mode; opening = b.opening; next = b.next; jobs = b.jobs; tallies = t }

  pub refused_end
      : (call : Call) (fault : ControlFault) → Err fault ≡ r → answer s call ≡ answered (λ _. Done) (end_answer s c)
      → (end_answer s c ≡ Err fault) × Steps means keeps a b call
  refused_end call fault e kind =
      let none = err_back _ fault (end_answer s c) (e ∙ d.row) in
      let same : means b.bench ≡ means a.bench = d.shows ∙ ap (λ (x : Result (Unit {0}) ControlFault). by_result x (set (means a.bench) c None) (means a.bench)) none in (
        none,
        refused means keeps a b call fault (kind ∙ ap (answered (λ _. Done)) none)
            (λ i. record {
              controllers = (d.plan i).controllers;
              rows = rows_of (d.plan i);
              mode = number (d.mode i);
              opening = d.opening i;
              next = d.next i;
              shows = same i;
              since = since_of (d.jobs i);
              counts = (d.tallies i).records;
            })
            d.plan d.fixed,
      )

  pub taken_end
      : (call : Call) (held : Option ℕ) → Ok held ≡ r → answer s call ≡ answered (λ _. Done) (end_answer s c)
      → (change : Counts → Counts) → settle s call (Ok Done) ≡ ended s c change
      → (t : Table Counts 64) → t.records ≡ count_for b.tallies.records held change
      → (Ok tt ≡ end_answer s c) × Steps means keeps a (with_counts t) call
  taken_end call held e kind change settled t counted =
      let (done, is) = ok_back _ held (end_answer s c) (e ∙ d.row) in
      let same : means b.bench ≡ set (means a.bench) c None = d.shows ∙ ap (λ (x : Result (Unit {0}) ControlFault). by_result x (set (means a.bench) c None) (means a.bench)) done in
      let counts : t.records ≡ count_for a.tallies.records (get_or (means a.bench) c None) change = counted ∙ ap₂ (λ (n : Table Counts 64) (o : Option ℕ). count_for n.records o change) d.tallies is in (
        sym done,
        record {
          state = (λ i. record {
            controllers = (d.plan i).controllers;
            rows = rows_of (d.plan i);
            mode = number (d.mode i);
            opening = d.opening i;
            next = d.next i;
            shows = same i;
            since = since_of (d.jobs i);
            counts = counts i;
          })
              ∙ sym settled ∙ sym (ap (settle s call) (kind ∙ ap (answered (λ _. Done)) done));
          plan = d.plan;
          fixed = d.fixed;
        },
      )
