-- The rack's answers as the player carries them: a refusal is the fault of its record.
use Rattle.std.specs.Prelude.{ℕ, ◌^◌, cond, List, Ok, Err, Result, nat_lt}
use Rattle.tasks.specs.declared.units.Ticks.{Ticks}
use Rattle.tasks.specs.declared.units.Units.{Units}
use Rattle.seating.specs.declared.refused.Refused.{Refused}
use Rattle.seating.specs.Refusals.{number_of}
use Rattle.rackfile.specs.declared.fault.FileFault.{FileFault}
use Rattle.rackfile.specs.Faults as faults
use Rattle.lines.specs.Texts as texts
use Rattle.playing.specs.declared.fault.PlayerFault.{PlayerFault}
use Rattle.playing.specs.declared.fault.PlayerFault.TheVariants.{Unread, Turned}

-- the rack's answer to the record of this index, its refusal carried into the player's fault
abbrev pub carried : {A : Type 0} → ℕ → Result A Refused → Result A PlayerFault
carried index (Ok a) = Ok a
carried index (Err e) = Err (Turned (record { index = index; refusal = e }))

-- a number as a line can write it, in 32 bits (no reading of a file and no rack gives a greater one)
abbrev pub in_line : ℕ → ℕ
in_line n = cond (nat_lt n (2 ^ 32)) n 4294967295

-- `F number place`
abbrev pub unreadable : FileFault → texts.Seen
unreadable f = texts.unreadable_line (faults.number_of f) (in_line (faults.place_of f))

-- the lines of what is carried
abbrev pub admission_line : ℕ → List ℕ → Result (ℕ × Ticks) PlayerFault → texts.Seen
admission_line index label (Ok a) = texts.admitted_line index label (in_line a.0) a.1.0
admission_line index label (Err (Turned e)) = texts.not_admitted_line e.index label (number_of e.refusal)
admission_line index label (Err (Unread f)) = unreadable f

abbrev pub withdrawal_line : ℕ → ℕ → Result (ℕ × Units × Ticks) PlayerFault → texts.Seen
withdrawal_line index number (Ok a) = texts.withdrawn_line index number (in_line a.0)
withdrawal_line index number (Err (Turned e)) = texts.not_withdrawn_line e.index number (number_of e.refusal)
withdrawal_line index number (Err (Unread f)) = unreadable f
