-- The lines of the player. Fields are parted by a space, and each line ends in 0A; numbers are decimal, without leading zeros.
use Rattle.std.specs.Prelude.{ℕ, Bool, true, List, ◌++◌, length, codes, decimal}
use Rattle.rackfile.specs.Records.{length_allowed}
use Rattle.lines.specs.declared.line.Line.{Line}
use Rattle.lines.specs.declared.line.Line.TheVariants.{Admitted, NotAdmitted, Withdrawn, NotWithdrawn, Unreadable}

-- a space and a number
abbrev pub field_text : ℕ → List ℕ
field_text n = codes " " ++ decimal n

-- a space, the letter R and a refusal's number
abbrev pub refusal_text : ℕ → List ℕ
refusal_text n = codes " R" ++ decimal n

-- a line, with the bytes of its label
pub data Seen : Type 0 where
  admitted_line : (index : ℕ) (label : List ℕ) (processor instant : ℕ) → Seen
  not_admitted_line : (index : ℕ) (label : List ℕ) (refusal : ℕ) → Seen
  withdrawn_line : (index number processor : ℕ) → Seen
  not_withdrawn_line : (index number refusal : ℕ) → Seen
  unreadable_line : (number place : ℕ) → Seen

abbrev pub seen_as : Line → Seen
seen_as (Admitted index label processor instant) = admitted_line index label.now processor instant
seen_as (NotAdmitted index label refusal) = not_admitted_line index label.now refusal
seen_as (Withdrawn index number processor) = withdrawn_line index number processor
seen_as (NotWithdrawn index number refusal) = not_withdrawn_line index number refusal
seen_as (Unreadable number place) = unreadable_line number place

-- `index A label`, `index W number` or `F`
abbrev pub head_text : Seen → List ℕ
head_text (admitted_line index label processor instant) = decimal index ++ (codes " A " ++ label)
head_text (not_admitted_line index label refusal) = decimal index ++ (codes " A " ++ label)
head_text (withdrawn_line index number processor) = decimal index ++ (codes " W " ++ decimal number)
head_text (not_withdrawn_line index number refusal) = decimal index ++ (codes " W " ++ decimal number)
head_text (unreadable_line number place) = codes "F"

-- and behind it ` processor instant`, ` Rn`, ` processor`, ` Rn` or ` number place`
abbrev pub tail_text : Seen → List ℕ
tail_text (admitted_line index label processor instant) = field_text processor ++ field_text instant
tail_text (not_admitted_line index label refusal) = refusal_text refusal
tail_text (withdrawn_line index number processor) = field_text processor
tail_text (not_withdrawn_line index number refusal) = refusal_text refusal
tail_text (unreadable_line number place) = field_text number ++ field_text place

abbrev pub line_text : Seen → List ℕ
line_text line = head_text line ++ (tail_text line ++ codes "\n")

-- a line can be written if its label, where it has one, is from 1 to 16 bytes long
abbrev pub writable : Seen → Bool
writable (admitted_line index label processor instant) = length_allowed (length label)
writable (not_admitted_line index label refusal) = length_allowed (length label)
writable (withdrawn_line index number processor) = true
writable (not_withdrawn_line index number refusal) = true
writable (unreadable_line number place) = true
