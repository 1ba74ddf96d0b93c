-- What comes of a task sheet: the appendix of its plan, or one refusal.
use Rattle.std.specs.Prelude.{◌≡◌, ℕ, pred, List, ℤ, pos, negsuc, Ok, Err, Result}
use Rattle.tasks.specs.Refusals.{appendix_refusal, reason_number}
use Rattle.tasks.specs.declared.fault.AppendixFault.{AppendixFault}
use Rattle.tasks.specs.declared.fault.AppendixFault.TheVariants.{Sheet, Plan, Places}
use Rattle.tasks.specs.declared.fault.PlanFault.{PlanFault}
use Rattle.tasks.specs.declared.task.Task.{Task}
use Rattle.sheet.specs.Reading.{read_sheet}
use Rattle.sheet.specs.Text.{Valid, text}
use Rattle.policies.specs.Meanings.{front_means}
use Rattle.policies.specs.declared.front.Front.{Front}
use Rattle.planner.specs.Outcomes.{Gives}
use Rattle.planner.specs.Planning.{Placed}
use Rattle.planner.specs.declared.row.Row.{Row}
use Rattle.printout.specs.Texts.{Wrote, appendix_text}

-- the bytes are the text of a sheet that keeps every rule, with these tasks on m controllers, tried from 0 upward
pub record Asks (sheet : List ℕ) (m : ℕ) (tasks : List Task) (policy : Front) : Type 0 where
  pub sheet_text : sheet ≡ text m tasks
  pub valid : Valid m tasks
  pub front : front_means.count policy ≡ m

-- the sheet's tasks are all placed, as these rows
pub record Planned (sheet : List ℕ) (m : ℕ) (rows : List Row) : Type 0 where
  pub tasks : List Task
  pub policy : Front
  pub asks : Asks sheet m tasks policy
  pub placed : Placed front_means policy tasks rows

-- planning the sheet's tasks is refused
pub record Unplanned (sheet : List ℕ) (fault : PlanFault) : Type 0 where
  pub m : ℕ
  pub tasks : List Task
  pub policy : Front
  pub asks : Asks sheet m tasks policy
  pub gives : Gives front_means m tasks policy (Err fault)

-- the rows of the sheet's plan are written as its appendix, if the bytes hold it
abbrev pub Written : List ℕ → List ℕ → Result ℕ AppendixFault → List ℕ → Type 0
Written sheet before answer next = (m : ℕ) × (rows : List Row) × Planned sheet m rows × Wrote (appendix_text m rows) before answer next

-- what comes of a sheet: the answer, and what the bytes for the appendix then hold. A refusal leaves them as they were.
abbrev pub Quoted : List ℕ → List ℕ → Result ℕ AppendixFault → List ℕ → Type 0
Quoted sheet before (Ok n) next = Written sheet before (Ok n) next
Quoted sheet before (Err (Sheet fault)) next = ((read_sheet sheet 64).answer ≡ Err fault) × (next ≡ before)
Quoted sheet before (Err (Plan fault)) next = Unplanned sheet fault × (next ≡ before)
Quoted sheet before (Err Places) next = Written sheet before (Err Places) next

-- nothing else can come of it
abbrev pub Only : List ℕ → List ℕ → Result ℕ AppendixFault → List ℕ → Type 0
Only sheet before answer next =
    (other : Result ℕ AppendixFault) (left : List ℕ) → Quoted sheet before other left → (other ≡ answer) × (left ≡ next)

-- an answer as one number: the length written, or the number of the refusal below 0
abbrev pub code_of : Result ℕ AppendixFault → ℤ
code_of (Ok n) = pos n
code_of (Err fault) = negsuc (pred (reason_number (appendix_refusal fault).reason))
