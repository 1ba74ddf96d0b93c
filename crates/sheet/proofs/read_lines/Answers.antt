-- Each way out of the reading delivers what the definition says.
use Rattle.std.proofs.Common.{length, take, Ok, Err, sym, refl, ap, ◌∙◌}
use Rattle.records.specs.Lists.{kept, lent}
use Rattle.sheet.specs.Lines.{lines, after, counted}
use Rattle.sheet.specs.Walk.{left}
use Rattle.sheet.proofs.Steps.{opening_at, row_at, passed_on, answered, opening_refused, opened, row_refused, one_more, close_refused, end_refused, finished}
use Rattle.sheet.proofs.read_lines.Goals as goal

pub returns-in_err-m : goal.returns-in_err-m
returns-in_err-m c =
    let before = lent c.args.rows.now in
    let f = c.in_err-m.field-0.0 in
    let e = opening_at c.places.result (length before) c.new-reader.result.line (left c.new-reader.result) (lines c.args.bytes.now) (Err f)
    c.in_err-m.ensures.value c.places.ensures.value c.new-reader.ensures.line c.new-reader.ensures.left in
    let d = answered c.args.bytes.now before before c.args.rows.now.len (Err f) c.from_residual.result before c.args.rows.now.len
    (opening_refused c.args.bytes.now before c.args.rows.now.len f e) (passed_on c.from_residual.result f c.from_residual.ensures.1) refl in
    record { delivered = record { answered = d.answer; places = d.list; len = d.count; lender = refl } }

pub loop-i-init : goal.loop-i-init
loop-i-init c =
    let before = lent c.clear.new.self in
    let e = opening_at c.places.result (length before) c.new-reader.result.line (left c.new-reader.result) (lines c.args.bytes.now) (Ok (c.in_ok-m.m, c.in_ok-m.tasks))
    c.in_ok-m.ensures.value (c.places.ensures.value ∙ ap length (sym c.clear.ensures.same)) c.new-reader.ensures.line c.new-reader.ensures.left in (
      opened c.args.bytes.now before c.in_ok-m.m c.in_ok-m.tasks c.opening.new.self.line (left c.opening.new.self) (kept c.clear.new.self) before c.clear.new.self.len e
          (c.opening.ensures.moved.line ∙ ap (λ k. counted k (left c.new-reader.result)) c.new-reader.ensures.line ∙ ap (counted 0) c.new-reader.ensures.left)
          (c.opening.ensures.moved.left ∙ ap after c.new-reader.ensures.left)
          c.clear.ensures.empty
          (ap (λ k. take k before) c.clear.ensures.empty)
          refl,
      refl,
    )

pub returns-in_err-task : goal.returns-in_err-task
returns-in_err-task c =
    let so = c.loop-i.invariant.0 in
    let f = c.in_err-task.field-0.0 in
    let e = row_at c.loop-i.reader.line (kept c.loop-i.rows) c.as_slice.result.now (left c.loop-i.reader) (Err f) c.in_err-task.ensures.value c.as_slice.ensures.value in
    let d = answered c.args.bytes.now (lent c.clear.new.self) (lent c.args.rows.now) c.args.rows.now.len (Err f) c.from_residual-in_err-task.result (lent c.loop-i.rows) c.loop-i.rows.len
    (row_refused so c.args.rows.now.len f c.loop-i-test.true e) (passed_on c.from_residual-in_err-task.result f c.from_residual-in_err-task.ensures.1) c.clear.ensures.same in
    record { delivered = record { answered = d.answer; places = d.list; len = d.count; lender = c.loop-i.invariant.1 ∙ c.clear.ensures.lender } }

pub loop-i-preserved : goal.loop-i-preserved
loop-i-preserved c =
    let so = c.loop-i.invariant.0 in
    let t = c.in_ok-task.task in
    let e = row_at c.loop-i.reader.line (kept c.loop-i.rows) c.as_slice.result.now (left c.loop-i.reader) (Ok t) c.in_ok-task.ensures.value c.as_slice.ensures.value in
    let p = c.in_ok-push.ensures.added in (
      one_more so t c.row.new.self.line (left c.row.new.self) (kept c.push.new.self) (lent c.push.new.self) c.push.new.self.len
          c.loop-i-test.true e c.row.ensures.moved.line c.row.ensures.moved.left p.1 p.2 refl,
      c.push.ensures.lender ∙ c.loop-i.invariant.1,
    )

pub returns-in_err-close : goal.returns-in_err-close
returns-in_err-close c =
    let so = c.loop-i.invariant.0 in
    let f = c.in_err-close.field-0.0 in
    let d = answered c.args.bytes.now (lent c.clear.new.self) (lent c.args.rows.now) c.args.rows.now.len (Err f) c.from_residual-in_err-close.result (lent c.loop-i.rows) c.loop-i.rows.len
    (close_refused so c.args.rows.now.len f c.loop-i-test.false c.in_err-close.ensures.value) (passed_on c.from_residual-in_err-close.result f c.from_residual-in_err-close.ensures.1) c.clear.ensures.same in
    record { delivered = record { answered = d.answer; places = d.list; len = d.count; lender = c.loop-i.invariant.1 ∙ c.clear.ensures.lender } }

pub returns-in_err-end : goal.returns-in_err-end
returns-in_err-end c =
    let so = c.loop-i.invariant.0 in
    let f = c.in_err-end.field-0.0 in
    let d = answered c.args.bytes.now (lent c.clear.new.self) (lent c.args.rows.now) c.args.rows.now.len (Err f) c.from_residual-in_err-end.result (lent c.loop-i.rows) c.loop-i.rows.len
    (end_refused so c.in_ok-close.field-0 c.in_ok-close.ensures.value c.close.new.self.line (left c.close.new.self) c.close.ensures.moved.line c.close.ensures.moved.left c.loop-i-test.false c.args.rows.now.len f c.in_err-end.ensures.value)
    (passed_on c.from_residual-in_err-end.result f c.from_residual-in_err-end.ensures.1) c.clear.ensures.same in
    record { delivered = record { answered = d.answer; places = d.list; len = d.count; lender = c.loop-i.invariant.1 ∙ c.clear.ensures.lender } }

pub returns : goal.returns
returns c =
    let so = c.loop-i.invariant.0 in
    let d = answered c.args.bytes.now (lent c.clear.new.self) (lent c.args.rows.now) c.args.rows.now.len (Ok c.in_ok-m.m) (Ok c.in_ok-m.m) (lent c.loop-i.rows) c.loop-i.rows.len
    (finished so c.in_ok-close.field-0 c.in_ok-close.ensures.value c.close.new.self.line (left c.close.new.self) c.close.ensures.moved.line c.close.ensures.moved.left c.loop-i-test.false c.args.rows.now.len c.in_ok-end.field-0 c.in_ok-end.ensures.value)
    refl c.clear.ensures.same in
    record { delivered = record { answered = d.answer; places = d.list; len = d.count; lender = c.loop-i.invariant.1 ∙ c.clear.ensures.lender } }
