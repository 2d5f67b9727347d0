-- `admit` and `withdraw`: calls on the rack of the console.
use Rattle.std.specs.Prelude.{◌≡◌, ℕ, cond, ◌&&◌, List, length, replicate, option_and_then, Some, None, codes, Option, Result, ◌==◌, nat_le, slice_index}
use Rattle.tasks.specs.declared.task.Task.{Task}
use Rattle.tasks.specs.declared.units.Ticks.{Ticks}
use Rattle.tasks.specs.declared.units.Units.{Units}
use Rattle.preferences.specs.Policies.{policy_before}
use Rattle.seating.specs.declared.refusal.AdmitRefusal.{AdmitRefusal}
use Rattle.seating.specs.declared.refusal.WithdrawRefusal.{WithdrawRefusal}
use Rattle.rack.specs.Steps.{AdmitStep, WithdrawStep}
use Rattle.tasks.specs.Tasks.{task_of}
use Rattle.script.specs.Fields.{numbers_of}
use Rattle.judges.specs.Kinds.{meaning_of}
use Rattle.console.specs.Console.{RackSeen, ConsoleSeen}
use Rattle.console.specs.declared.asking.Admission.{Admission}
use Rattle.console.specs.Texts.{admit_text, withdraw_text}

-- `NUMBER C T LENGTH`, a sheet of at most 64 entries
abbrev pub admission_in : List ℕ → Option Admission
admission_in ns =
    cond (length ns == 4 && nat_le (slice_index ns 3) 64) (Some (record { task = task_of (slice_index ns 0) (slice_index ns 1) (slice_index ns 2); length = slice_index ns 3 })) None

abbrev pub admission_of : List ℕ → Option Admission
admission_of text = option_and_then admission_in (numbers_of text)

-- an admission is that step of the rack, and its answer is written in words
pub record AdmittedWith (r : RackSeen) (task : Task) (sheet text : List ℕ) (s : RackSeen) : Type 0 where
  pub answer : Result (ℕ × Ticks) AdmitRefusal
  pub sheet_after : List ℕ
  pub step : AdmitStep meaning_of policy_before r task sheet answer sheet_after s
  pub says : text ≡ admit_text answer sheet_after

-- from a sheet of the length asked for, with 777 in each entry
abbrev pub Admitted : RackSeen → Admission → List ℕ → RackSeen → Type 0
Admitted r asks = AdmittedWith r asks.task (replicate asks.length 777)

pub record Withdrawn (r : RackSeen) (number : ℕ) (text : List ℕ) (s : RackSeen) : Type 0 where
  pub answer : Result (ℕ × Units × Ticks) WithdrawRefusal
  pub step : WithdrawStep meaning_of policy_before r number answer s
  pub says : text ≡ withdraw_text answer

-- a call on the rack of the console; `no rack` where there is none
abbrev pub OnRack : (RackSeen → List ℕ → RackSeen → Type 0) → ConsoleSeen → List ℕ → ConsoleSeen → Type 0
OnRack does None text after = (text ≡ codes "no rack") × (after ≡ None)
OnRack does (Some r) text None = ⊥
OnRack does (Some r) text (Some s) = does r text s

abbrev pub AdmitOn : ConsoleSeen → Admission → List ℕ → ConsoleSeen → Type 0
AdmitOn before asks = OnRack (λ r. Admitted r asks) before

abbrev pub WithdrawOn : ConsoleSeen → ℕ → List ℕ → ConsoleSeen → Type 0
WithdrawOn before number = OnRack (λ r. Withdrawn r number) before

-- the console before, what is asked or none where it is no call, the answer, and the console after
abbrev pub AdmitAnswer : ConsoleSeen → Option Admission → List ℕ → ConsoleSeen → Type 0
AdmitAnswer before None text after = (text ≡ codes "?") × (after ≡ before)
AdmitAnswer before (Some asks) text after = AdmitOn before asks text after

abbrev pub WithdrawAnswer : ConsoleSeen → Option ℕ → List ℕ → ConsoleSeen → Type 0
WithdrawAnswer before None text after = (text ≡ codes "?") × (after ≡ before)
WithdrawAnswer before (Some number) text after = WithdrawOn before number text after
