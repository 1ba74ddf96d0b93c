use Rattle.std.proofs.Common.{drop, sym, ap, ◌∙◌, arith, length-drop}
use Rattle.frames.specs.Frames.{framed}
use Rattle.digits.specs.Digits.{byte_at}
use Rattle.frames.proofs.KindLengths.{no_frame, first_byte}
use Rattle.frames.proofs.frame.Line.decoded.Goals as goal

pub returns-then-count-gt11 : goal.returns-then-count-gt11
returns-then-count-gt11 c =
    let ds = c.args.self.digits.now in
    let l = length-drop 2 ds in
    record { held = tt; value = sym (no_frame c.args.self.number (byte_at ds 0) (drop 2 ds) (λ k e. omega arith) (λ k e. omega arith) (λ k e. omega arith)) }

pub returns : goal.returns
returns c =
    let ds = c.args.self.digits.now in
    let e = first_byte c.decode.new.bytes ds (omega arith) c.decode.ensures.each in
    record { held = c.by_kind.ensures.held; value = c.by_kind.ensures.value ∙ ap (λ k. framed c.args.self.number k (drop 2 ds)) e }
