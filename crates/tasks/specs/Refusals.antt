-- The reason, layer and place of each fault, and the numbers that are reported of a reason and of a layer.
use Rattle.std.specs.Prelude.{ℕ, Some, None}
use Rattle.tasks.specs.declared.fault.DigitFault.{DigitFault}
use Rattle.tasks.specs.declared.fault.DigitFault.TheVariants as digit
use Rattle.tasks.specs.declared.fault.FrameFault.{FrameFault}
use Rattle.tasks.specs.declared.fault.FrameFault.TheVariants as frame
use Rattle.tasks.specs.declared.fault.SheetFault.{SheetFault}
use Rattle.tasks.specs.declared.fault.SheetFault.TheVariants as sheet
use Rattle.tasks.specs.declared.fault.PlanFault.{PlanFault}
use Rattle.tasks.specs.declared.fault.PlanFault.TheVariants as plan
use Rattle.tasks.specs.declared.fault.ListFault.{ListFault}
use Rattle.tasks.specs.declared.fault.ListFault.TheVariants as list
use Rattle.tasks.specs.declared.fault.AppendixFault.{AppendixFault}
use Rattle.tasks.specs.declared.fault.AppendixFault.TheVariants as appendix
use Rattle.tasks.specs.declared.fault.BenchFault.{BenchFault}
use Rattle.tasks.specs.declared.fault.BenchFault.TheVariants as bench
use Rattle.tasks.specs.declared.fault.ControlFault.{ControlFault}
use Rattle.tasks.specs.declared.fault.ControlFault.TheVariants as control
use Rattle.tasks.specs.declared.fault.RunFault.{RunFault}
use Rattle.tasks.specs.declared.fault.RunFault.TheVariants as run
use Rattle.tasks.specs.declared.reason.Layer.{Layer}
use Rattle.tasks.specs.declared.reason.Layer.TheVariants as layer
use Rattle.tasks.specs.declared.reason.Layer.TheVariants.{Digits, Frames, Sheet, Planning, Control, Bench}
use Rattle.tasks.specs.declared.reason.Reason.{Reason}
use Rattle.tasks.specs.declared.reason.Reason.TheVariants as reason
use Rattle.tasks.specs.declared.reason.Reason.TheVariants.{BadDigits, Unended, NoFrame, OutOfPlace, Size, Range, IdUsed, PeriodFalls, Counts, NoController, Beyond, Idle, Everyday, SomeBusy, Places, Over, Busy, NotEachOnce, NotLoaded, Loaded}
use Rattle.tasks.specs.declared.refusal.Refusal.{Refusal}

-- the number that is reported for a reason
abbrev pub reason_number : Reason → ℕ
reason_number BadDigits = 1
reason_number Unended = 2
reason_number NoFrame = 3
reason_number OutOfPlace = 4
reason_number Size = 5
reason_number Range = 6
reason_number IdUsed = 7
reason_number PeriodFalls = 8
reason_number Counts = 9
reason_number NoController = 10
reason_number Beyond = 11
reason_number Idle = 12
reason_number Everyday = 13
reason_number SomeBusy = 14
reason_number Places = 15
reason_number Over = 16
reason_number Busy = 17
reason_number NotEachOnce = 18
reason_number NotLoaded = 19
reason_number Loaded = 20
reason_number (reason.Other n) = n

-- the number that is reported for the layer that found the fault
abbrev pub layer_number : Layer → ℕ
layer_number Digits = 1
layer_number Frames = 2
layer_number Sheet = 3
layer_number Planning = 4
layer_number Control = 5
layer_number Bench = 6
layer_number (layer.Other n) = n

-- a refusal with this reason, layer and place, and no column
abbrev pub refusal : Reason → Layer → ℕ → Refusal
refusal r l p = record { reason = r; layer = l; place = p; column = None }

-- a refusal of a digit: the line, and the column in it
abbrev pub refusal_at : ℕ → ℕ → Refusal
refusal_at line col = record { reason = BadDigits; layer = Digits; place = line; column = Some col }

-- what is reported of a fault of the digits
abbrev pub digit_refusal : DigitFault → Refusal
digit_refusal (digit.Bad line column) = refusal_at line column
digit_refusal (digit.Odd line column) = refusal_at line column
digit_refusal (digit.Unended line) = refusal Unended Digits line

-- what is reported of a fault of a frame: a fault from below is carried up whole, with its layer
abbrev pub frame_refusal : FrameFault → Refusal
frame_refusal (frame.Digits fault) = digit_refusal fault
frame_refusal (frame.NoFrame line) = refusal NoFrame Frames line

-- what is reported of a fault of a sheet
abbrev pub sheet_refusal : SheetFault → Refusal
sheet_refusal (sheet.Frame fault) = frame_refusal fault
sheet_refusal (sheet.OutOfPlace line) = refusal OutOfPlace Sheet line
sheet_refusal (sheet.Counts line) = refusal Size Sheet line
sheet_refusal (sheet.Range line) = refusal Range Sheet line
sheet_refusal (sheet.IdUsed line) = refusal IdUsed Sheet line
sheet_refusal (sheet.PeriodFalls line) = refusal PeriodFalls Sheet line
sheet_refusal (sheet.Places line) = refusal Places Sheet line

-- what is reported of a fault of planning: the row where there is one
abbrev pub plan_refusal : PlanFault → Refusal
plan_refusal plan.Size = refusal Size Planning 0
plan_refusal (plan.Range row) = refusal Range Planning row
plan_refusal plan.Counts = refusal Counts Planning 0
plan_refusal (plan.NoController row) = refusal NoController Planning row

-- what is reported of a list that a policy does not take
abbrev pub list_refusal : ListFault → Refusal
list_refusal list.NotEachOnce = refusal NotEachOnce Planning 0

-- what is reported of a fault on the way from a sheet to its appendix
abbrev pub appendix_refusal : AppendixFault → Refusal
appendix_refusal (appendix.Sheet fault) = sheet_refusal fault
appendix_refusal (appendix.Plan fault) = plan_refusal fault
appendix_refusal appendix.Places = refusal Places Planning 0

-- what is reported of a fault of a bench: the number that the caller gave
abbrev pub bench_refusal : BenchFault → Refusal
bench_refusal (bench.NoController controller) = refusal Beyond Bench controller
bench_refusal (bench.NoRow row) = refusal Beyond Bench row
bench_refusal (bench.Idle controller) = refusal Idle Bench controller
bench_refusal (bench.Busy controller) = refusal Busy Bench controller

-- what is reported of a fault of a control
abbrev pub control_refusal : ControlFault → Refusal
control_refusal (control.Bench fault) = bench_refusal fault
control_refusal control.NotLoaded = refusal NotLoaded Control 0
control_refusal control.Loaded = refusal Loaded Control 0
control_refusal control.Counts = refusal Counts Control 0
control_refusal control.Busy = refusal SomeBusy Control 0
control_refusal control.Everyday = refusal Everyday Control 0
control_refusal control.Places = refusal Places Control 0
control_refusal control.Over = refusal Over Control 0
control_refusal (control.NoRow row) = refusal Beyond Control row

-- what is reported of a fault on the way from tasks to a run of their plan
abbrev pub run_refusal : RunFault → Refusal
run_refusal (run.Plan fault) = plan_refusal fault
run_refusal (run.Control fault) = control_refusal fault
