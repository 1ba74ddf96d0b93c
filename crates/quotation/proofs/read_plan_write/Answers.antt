use Rattle.std.proofs.Common.{Err, refl}
use Rattle.records.specs.Lists.{kept}
use Rattle.tasks.specs.declared.fault.AppendixFault.TheVariants.{Plan}
use Rattle.planner.specs.Plans.{rows_of}
use Rattle.quotation.proofs.Stages.{carried, unplanned, written}
use Rattle.quotation.proofs.read_plan_write.Goals as goal

pub returns-in_err-plan : goal.returns-in_err-plan
returns-in_err-plan c =
    let sheet = c.args.sheet.now in
    let tasks = kept c.read_sheet.new.rows in
    let f = c.in_err-plan.field-0.0 in
    let (is, valid, room) = (c.in_ok-m.ensures.exactly c.in_ok-m.m tasks).0 (refl, refl) in
    let q = unplanned sheet c.in_ok-m.m tasks c.new.result c.as_slice.result.now is valid c.new.ensures.count c.as_slice.ensures.value c.args.out.now f
    ((c.in_err-plan.ensures.answer (Err f)).0 refl) in
    let d = carried sheet c.args.out.now c.from_residual-in_err-plan.result (Plan f) c.from_residual-in_err-plan.ensures.1 q in
    record { quoted = d.0; small = d.1 }

pub returns : goal.returns
returns c =
    let sheet = c.args.sheet.now in
    let tasks = kept c.read_sheet.new.rows in
    let made = c.plan.new.plan in
    let (is, valid, room) = (c.in_ok-m.ensures.exactly c.in_ok-m.m tasks).0 (refl, refl) in
    let after = c.in_ok-plan.ensures.plan in
    record {
      quoted = written sheet c.in_ok-m.m tasks c.new.result c.as_slice.result.now is valid c.new.ensures.count c.as_slice.ensures.value
          made.controllers (rows_of made) c.args.out.now c.write_appendix.result c.write_appendix.new.out after.wide after.placed c.write_appendix.ensures.wrote;
      small = c.write_appendix.ensures.bound;
    }
