-- What the player does for one record.
use Rattle.std.specs.Prelude.{◌≡◌, ℕ, List, Ok, Err, Result}
use Rattle.tasks.specs.declared.task.Task.{Task}
use Rattle.tasks.specs.declared.units.Ticks.{Ticks}
use Rattle.tasks.specs.declared.units.Units.{Units}
use Rattle.tasks.specs.Tasks.{task_of}
use Rattle.judges.specs.Laws.{Meaning}
use Rattle.preferences.specs.Laws.{Relation}
use Rattle.seating.specs.declared.refusal.AdmitRefusal.{AdmitRefusal}
use Rattle.seating.specs.declared.refusal.WithdrawRefusal.{WithdrawRefusal}
use Rattle.seating.specs.declared.refused.Refused.TheVariants.{Admitting, Withdrawing}
use Rattle.seating.specs.Refusals.{number_of}
use Rattle.rack.specs.Table.{Table}
use Rattle.rack.specs.Steps.{AdmitStep, WithdrawStep}
use Rattle.rackfile.specs.Records as records
use Rattle.lines.specs.Texts as texts
use Rattle.lines.specs.Writing.{Written}

-- the line of each answer of the rack
abbrev pub admit_line : ℕ → List ℕ → Result (ℕ × Ticks) AdmitRefusal → texts.Seen
admit_line index label (Ok a) = texts.admitted_line index label a.0 a.1.0
admit_line index label (Err e) = texts.not_admitted_line index label (number_of (Admitting e))

abbrev pub withdraw_line : ℕ → ℕ → Result (ℕ × Units × Ticks) WithdrawRefusal → texts.Seen
withdraw_line index number (Ok a) = texts.withdrawn_line index number a.0
withdraw_line index number (Err e) = texts.not_withdrawn_line index number (number_of (Withdrawing e))

module _ {J P : Type 0} (meaning : J → Meaning) (before : P → Relation) where
  -- an admission is that step of the rack, and its answer's line is written into the buffer
  pub record PlaysAdmission (r : Table J P) (task : Task) (label : List ℕ) (index : ℕ) (sheet buffer : List ℕ) (long : ℕ) (s : Table J P) (sheet' buffer' : List ℕ) : Type 0 where
    pub answer : Result (ℕ × Ticks) AdmitRefusal
    pub step : AdmitStep meaning before r task sheet answer sheet' s
    pub line : Written buffer buffer' (admit_line index label answer) long

  -- a withdrawal likewise; it has no sheet
  pub record PlaysWithdrawal (r : Table J P) (n : ℕ) (index : ℕ) (sheet buffer : List ℕ) (long : ℕ) (s : Table J P) (sheet' buffer' : List ℕ) : Type 0 where
    pub answer : Result (ℕ × Units × Ticks) WithdrawRefusal
    pub step : WithdrawStep meaning before r n answer s
    pub sheet_stays : sheet' ≡ sheet
    pub line : Written buffer buffer' (withdraw_line index n answer) long

  -- a record is played: the rack before, the record, its index, the sheet and the buffer before; the length answered; the rack, the sheet and the buffer after
  abbrev pub Plays : Table J P → records.Seen → ℕ → List ℕ → List ℕ → ℕ → Table J P → List ℕ → List ℕ → Type 0
  Plays r (records.admits number work period label place) index = PlaysAdmission r (task_of number work period) label index
  Plays r (records.withdraws number) index = PlaysWithdrawal r number index
