-- Lines as frames: the digits of a line, its bytes, and what its frame tells.
use Rattle.std.specs.Prelude.{◌≡◌, ℕ, ◌+◌, ◌%◌, cond, ◌&&◌, List, length, drop, Ok, Err, Result, ◌==◌, nat_lt}
use Rattle.std.specs.List.{prefix_len}
use Rattle.digits.specs.Digits.{is_digit, byte_at, word_at}
use Rattle.tasks.specs.declared.fault.DigitFault.{DigitFault}
use Rattle.tasks.specs.declared.fault.DigitFault.TheVariants.{Bad, Odd}
use Rattle.tasks.specs.declared.fault.FrameFault.{FrameFault}
use Rattle.tasks.specs.declared.fault.FrameFault.TheVariants.{Digits, NoFrame}
use Rattle.tasks.specs.declared.task.Task.{Task}
use Rattle.frames.specs.declared.frame.Frame.{Frame}
use Rattle.frames.specs.declared.frame.Frame.TheVariants.{Opening, Row, Close}

-- what a frame tells
pub data Told : Type 0 where
  opening : (m tasks : ℕ) → Told
  row : Task → Told
  close : Told

-- the task that the field digits of a task frame tell
abbrev pub task_of : List ℕ → Task
task_of fields = record {
  id = byte_at fields 0;
  level = byte_at fields 1;
  period = word_at fields 2;
  deadline = word_at fields 4;
  budgets = record { everyday = word_at fields 6; critical = word_at fields 8 };
}

-- the first fault in the digits of a line: a byte that is no digit, then an odd count
abbrev pub digits_checked : ℕ → List ℕ → Result (Unit {0}) DigitFault
digits_checked line digits =
    cond (nat_lt (prefix_len is_digit digits) (length digits)) (Err (Bad line (prefix_len is_digit digits + 1)))
    (cond (length digits % 2 == 1) (Err (Odd line (length digits + 1)))
    (Ok tt))

-- the frame of a kind with those field digits: 1 opens with 2 bytes, 2 is a task with 10, 3 closes with none
abbrev pub framed : ℕ → ℕ → List ℕ → Result Told FrameFault
framed line kind fields =
    cond (kind == 1 && length fields == 4) (Ok (opening (byte_at fields 0) (byte_at fields 1)))
    (cond (kind == 2 && length fields == 20) (Ok (row (task_of fields)))
    (cond (kind == 3 && length fields == 0) (Ok close)
    (Err (NoFrame line))))

-- a fault of the digits goes before one of the frame
abbrev pub unless_digits : {X : Type 0} → Result (Unit {0}) DigitFault → Result X FrameFault → Result X FrameFault
unless_digits (Err fault) r = Err (Digits fault)
unless_digits (Ok _) r = r

-- what the frame on a line tells, or why the line is no frame: the first byte is the kind, the rest are the fields
abbrev pub frame_of : ℕ → List ℕ → Result Told FrameFault
frame_of line digits = unless_digits (digits_checked line digits) (framed line (byte_at digits 0) (drop 2 digits))

-- what a frame in the code tells, whose cases borrow their field digits
abbrev pub told_by : Frame → Told
told_by (Opening fields) = opening (byte_at fields.now 0) (byte_at fields.now 1)
told_by (Row fields) = row (task_of fields.now)
told_by Close = close

-- the frame holds these digits as its own part of the line; a close holds none
abbrev pub Holds : List ℕ → Result Frame FrameFault → Type 0
Holds digits (Ok (Opening own)) = own.now ≡ digits
Holds digits (Ok (Row own)) = own.now ≡ digits
Holds digits (Ok Close) = Unit {0}
Holds digits (Err fault) = Unit {0}

-- the same where a frame or a fault came
abbrev pub shown : Result Frame FrameFault → Result Told FrameFault
shown (Ok frame) = Ok (told_by frame)
shown (Err fault) = Err fault
