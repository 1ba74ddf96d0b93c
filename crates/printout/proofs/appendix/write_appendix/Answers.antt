use borrow.Rule.Slice.PartMut.{put_mid, same_len_mid}
use Rattle.std.proofs.Common.{ℕ, ◌+◌, ◌-◌, ◌*◌, List, length, Ok, Err, refl, ap, ◌∙◌, subst, arith}
use Rattle.tasks.specs.declared.fault.AppendixFault.TheVariants.{Places}
use Rattle.planner.specs.declared.row.Row.{Row}
use Rattle.printout.specs.Texts.{Wrote, appendix_text}
use Rattle.printout.proofs.Parts.{whole, too_few}
use Rattle.printout.proofs.Quotes.{texts_tell_quotes}
use Rattle.printout.proofs.appendix.write_appendix.Goals as goal

pub returns-then-out-length : goal.returns-then-out-length
returns-then-out-length c =
    let m = c.args.plan.now.controllers in
    let before = c.args.out.now in
    let F : List Row → Type 0 = λ rows. Wrote (appendix_text m rows) before (Err Places) before in
    record {
      wrote = subst F c.rows-rows.ensures.value (too_few m c.rows-rows.result.now before c.if-out-length.true);
      bound = tt;
      longest = refl;
      telling = texts_tell_quotes;
    }

pub returns : goal.returns
returns c =
    let plan = c.args.plan.now in
    let before = c.args.out.now in
    let rows = c.rows-rows.result.now in
    let n = 7 + 15 * length rows + 3 in
    let opened = c.put_line.new.out in
    let rowed = put_mid 7 (length opened - 7) opened c.put_rows.new.out in
    let out = put_mid (n - 3) (length rowed - (n - 3)) rowed c.put_line-2.new.out in
    let all = whole c.controllers.result n rows before opened rowed out refl c.if-out-length.false c.put_line.ensures.after
    c.put_rows.new.out c.put_rows.ensures.after refl c.put_line-2.new.out c.put_line-2.ensures.after refl c.put_line.auto.out
    (same_len_mid 7 (length opened - 7) opened c.put_rows.new.out c.put_rows.auto.out ∙ c.put_line.auto.out) in
    let M : ℕ → Type 0 = λ m. Wrote (appendix_text m rows) before (Ok n) out in
    let F : List Row → Type 0 = λ rs. Wrote (appendix_text plan.controllers rs) before (Ok n) out in
    record { wrote = subst F c.rows-rows.ensures.value (subst M c.controllers.ensures.value all); bound = omega (arith, ap length c.rows-rows.ensures.value, c.rows-rows.ensures.stands.short); longest = refl; telling = texts_tell_quotes }
