use Rattle.std.proofs.Common.{slice_index, drop, sym}
use Rattle.frames.specs.declared.kind.Kind.TheVariants.{Opening, Row, Close}
use Rattle.frames.proofs.KindLengths.{no_frame}
use Rattle.frames.proofs.frame.Line.by_kind.Goals as goal

pub returns-in-Err : goal.returns-in-Err
returns-in-Err c =
    let none = c.in-Err.ensures in
    record { held = tt; value = sym (no_frame c.args.self.number (slice_index c.args.bytes.now 0) (drop 2 c.args.self.digits.now) (λ k _. none Opening k) (λ k _. none Row k) (λ k _. none Close k)) }
