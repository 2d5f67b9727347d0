-- Records, and reading one from the front.
use Rattle.std.specs.Prelude.{ℕ, ◌+◌, Bool, cond, not, ◌&&◌, List, Some, None, Option, Ok, Err, Result, ◌==◌, nat_le}
use Rattle.std.specs.List.{position}
use Rattle.rackfile.specs.declared.fault.RecordFault.{RecordFault}
use Rattle.rackfile.specs.declared.fault.RecordFault.TheVariants.{Bytes, Tag, Label}
use Rattle.rackfile.specs.declared.record.Record.{Record}
use Rattle.rackfile.specs.declared.record.Record.TheVariants.{Admission, Withdrawal}
use Rattle.rackfile.specs.Reading.{place_in, field, take_byte, take_word, take_part}

-- a record, with the bytes of its label and their place in the input
pub data Seen : Type 0 where
  admits : (number work period : ℕ) (label : List ℕ) (place : ℕ) → Seen
  withdraws : (number : ℕ) → Seen

abbrev pub seen_as : Record → Seen
seen_as (Admission number work period label place) = admits number work period label.now place
seen_as (Withdrawal number) = withdraws number

-- the tag of each: A and W
abbrev pub tag_of : Seen → ℕ
tag_of (admits number work period label place) = 65
tag_of (withdraws number) = 87

-- a byte that may stand in a label: 21 to 7E (hexadecimal)
abbrev pub printable : ℕ → Bool
printable b = nat_le 33 b && nat_le b 126

-- the index of the first byte that may not, or none
abbrev pub first_bad : List ℕ → Option ℕ
first_bad label = position (λ b. not (printable b)) label

-- a label has 1 to 16 bytes
abbrev pub length_allowed : ℕ → Bool
length_allowed n = nat_le 1 n && nat_le n 16

-- go on with what was read, or take a fault of the layer below up
abbrev pub then : {A B E F : Type 0} → (E → F) → Result A E → (A → Result B F) → Result B F
then up (Ok x) go_on = go_on x
then up (Err e) go_on = Err (up e)

-- go on within the layer
abbrev pub next : {A B E : Type 0} → Result A E → (A → Result B E) → Result B E
next (Ok x) go_on = go_on x
next (Err e) go_on = Err e

-- a label of this text and place, whose first bad byte is known, and the rest
abbrev pub judged : ℕ → List ℕ × List ℕ → Option ℕ → Result ((List ℕ × ℕ) × List ℕ) RecordFault
judged place x None = Ok ((x.0, place), x.1)
judged place x (Some bad) = Err (Label (place + bad))

-- the bytes of a label, of which each must be printable
abbrev pub read_text : ℕ → ℕ → List ℕ → Result ((List ℕ × ℕ) × List ℕ) RecordFault
read_text whole n s = then Bytes (field whole (take_part n s)) (λ x. judged (place_in whole s) x (first_bad x.0))

-- a label: its length, and then its bytes; with its place
abbrev pub read_label : ℕ → List ℕ → Result ((List ℕ × ℕ) × List ℕ) RecordFault
read_label whole s = then Bytes (field whole (take_byte s)) (λ x.
    cond (length_allowed x.0) (read_text whole x.0 x.1) (Err (Label (place_in whole s))))

-- behind its tag, an admission has a number, a work and a period of 32 bits each, and a label
abbrev pub read_admission : ℕ → List ℕ → Result (Seen × List ℕ) RecordFault
read_admission whole s =
    then Bytes (field whole (take_word s)) (λ n. then Bytes (field whole (take_word n.1)) (λ c. then Bytes (field whole (take_word c.1)) (λ t.
    next (read_label whole t.1) (λ l. Ok (admits n.0 c.0 t.0 l.0.0 l.0.1, l.1)))))

-- a withdrawal has a number
abbrev pub read_withdrawal : ℕ → List ℕ → Result (Seen × List ℕ) RecordFault
read_withdrawal whole s = then Bytes (field whole (take_word s)) (λ n. Ok (withdraws n.0, n.1))

-- a record begins with its tag
abbrev pub read_record : ℕ → List ℕ → Result (Seen × List ℕ) RecordFault
read_record whole s = then Bytes (field whole (take_byte s)) (λ x.
    cond (x.0 == 65) (read_admission whole x.1) (cond (x.0 == 87) (read_withdrawal whole x.1) (Err (Tag (place_in whole s)))))
