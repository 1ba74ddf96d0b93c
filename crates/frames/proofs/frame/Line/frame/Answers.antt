use Rattle.std.proofs.Common.{◌≡◌, ◌∙◌, rules}
use Rattle.frames.specs.Frames.{frame_of, shown}
use Rattle.frames.proofs.FrameTexts.{reads_exactly}
use Rattle.frames.proofs.KindLengths.{good_digits}
use Rattle.frames.proofs.frame.Line.frame.Goals as goal

pub returns : goal.returns
returns c =
    let line = c.args.self in
    let v = c.decoded.ensures.value ∙ good_digits line.number line.digits.now c.in_ok-check_digits.field-0 c.in_ok-check_digits.ensures.value in
    record { value = v; held = c.decoded.ensures.held; exactly = reads_exactly line.number line.digits.now (shown c.decoded.result) v }

pub returns-in_err-check_digits : goal.returns-in_err-check_digits
returns-in_err-check_digits c =
    let line = c.args.self in
    let v : shown c.from_residual.result ≡ frame_of line.number line.digits.now = search rules in
    record { value = v; held = search rules; exactly = reads_exactly line.number line.digits.now (shown c.from_residual.result) v }
