use Rattle.std.proofs.Common.{◌-◌, length, take, drop, sym, refl, ap, ◌∙◌, arith}
use Rattle.std.proofs.lemmas.Bool.{eqb-false}
use Rattle.sheet.specs.Walk.{place_after}
use Rattle.sheet.specs.Lines.{next_line, after, counted}
use Rattle.sheet.proofs.Cuts.{found, not_found, first_line, moved_on, last_line}
use Rattle.sheet.proofs.reader.Reader.next_line.Goals as goal

pub returns-in-Some : goal.returns-in-Some
returns-in-Some c =
    let r = c.args.self.now in
    let f = found (take (length r.bytes.now - r.place) (drop r.place r.bytes.now)) c.in-Some.length c.in-Some.ensures.value in
    let e = first_line r.bytes.now r.place c.in-Some.length f.0 f.1 in
    record { value = sym (ap (next_line r.line) e); moved = record { sheet = refl; place = moved_on r.bytes.now r.place c.in-Some.length f.0 f.1; line = sym (ap (counted r.line) e); left = sym (ap after e) } }

pub returns-in-None-2 : goal.returns-in-None-2
returns-in-None-2 c =
    let r = c.args.self.now in
    let rest = take (length r.bytes.now - r.place) (drop r.place r.bytes.now) in
    let f = not_found rest c.in-None.ensures.value in
    let e = last_line r.bytes.now r.place (length rest) (sym f) (omega arith) (eqb-false (length rest) 0 (sym c.if-is_empty.ensures)) in
    record { value = sym (ap (next_line r.line) e); moved = record { sheet = refl; place = sym (ap (place_after r.place) e); line = sym (ap (counted r.line) e); left = e ∙ sym (ap after e) } }
