-- The file, read from the front.
use Rattle.std.specs.Prelude.{◌≡◌, ℕ, zero, suc, ◌+◌, ◌*◌, Bool, cond, not, ◌&&◌, List, [], ◌∷◌, length, drop, is_some, Some, None, Ok, Err, Option, Result, ◌==◌, nat_le, nat_lt, slice_index}
use Rattle.preferences.specs.declared.policy.Policy.{Policy}
use Rattle.preferences.specs.Policies.{policy_named}
use Rattle.rackfile.specs.declared.fault.BytesFault.TheVariants.{TooLong, Cut, Trailing}
use Rattle.rackfile.specs.declared.fault.RecordFault.{RecordFault}
use Rattle.rackfile.specs.declared.fault.RecordFault.TheVariants.{Bytes}
use Rattle.rackfile.specs.declared.fault.FileFault.{FileFault}
use Rattle.rackfile.specs.declared.fault.FileFault.TheVariants as fault
use Rattle.rackfile.specs.declared.bytes.Reader.{Reader}
use Rattle.rackfile.specs.declared.file.Header.{Header}
use Rattle.rackfile.specs.declared.file.RackFile.{RackFile}
use Rattle.rackfile.specs.Reading.{place_in, too_long}
use Rattle.rackfile.specs.Records.{Seen, next, read_record}

-- the letters RAK
abbrev pub is_mark : ℕ → ℕ → ℕ → Bool
is_mark a b c = a == 82 && (b == 65 && c == 75)

-- version 1
abbrev pub is_version : ℕ → ℕ → Bool
is_version high low = high * 256 + low == 1

-- the input's mark and version are as they must be
abbrev pub right_mark : List ℕ → Bool
right_mark s = is_mark (slice_index s 0) (slice_index s 1) (slice_index s 2)

abbrev pub right_version : List ℕ → Bool
right_version s = is_version (slice_index s 3) (slice_index s 4)

-- a rack has 1 to 16 processors
abbrev pub processors_allowed : ℕ → Bool
processors_allowed n = nat_le 1 n && nat_le n 16

abbrev pub cut : ℕ → FileFault
cut whole = fault.Record (Bytes (Cut whole))

-- What is wrong with a header, or none: its fields in turn, each first for whether it is whole and then for what it holds.
-- They are the mark (3 bytes), the version (2), the policy letter, the number of processors, and the count of records (2).
abbrev pub header_fault : ℕ → List ℕ → Option FileFault
header_fault whole s =
    cond (nat_lt (length s) 3) (Some (cut whole))
    (cond (not (right_mark s)) (Some fault.Mark)
    (cond (nat_lt (length s) 5) (Some (cut whole))
    (cond (not (right_version s)) (Some fault.Version)
    (cond (nat_lt (length s) 6) (Some (cut whole))
    (cond (not (is_some (policy_named (slice_index s 5)))) (Some fault.Policy)
    (cond (nat_lt (length s) 7) (Some (cut whole))
    (cond (not (processors_allowed (slice_index s 6))) (Some fault.Processors)
    (cond (nat_lt (length s) 9) (Some (cut whole)) None))))))))

-- the count of records
abbrev pub count_in : List ℕ → ℕ
count_in s = slice_index s 7 * 256 + slice_index s 8

pub record HeaderOf (whole : ℕ) (s : List ℕ) (h : Header) (rest : List ℕ) : Type 0 where
  pub right : header_fault whole s ≡ None
  pub its_policy : policy_named (slice_index s 5) ≡ Some h.policy
  pub its_processors : h.processors ≡ slice_index s 6
  pub its_count : h.count ≡ count_in s
  pub its_rest : rest ≡ drop 9 s

abbrev pub ReadsHeader : Reader → Reader → Result Header FileFault → Type 0
ReadsHeader old new (Ok h) = HeaderOf old.whole old.left.now h new.left.now × (new.whole ≡ old.whole)
ReadsHeader old new (Err f) = header_fault old.whole old.left.now ≡ Some f

-- so many records, one behind the other, and what is left
abbrev pub read_records : ℕ → ℕ → List ℕ → Result (List Seen × List ℕ) RecordFault
read_records whole zero s = Ok ([], s)
read_records whole (suc n) s = next (read_record whole s) (λ x. next (read_records whole n x.1) (λ y. Ok (x.0 ∷ y.0, y.1)))

-- what a file says
pub record File : Type 0 where
  pub policy : Policy
  pub processors : ℕ
  pub records : List Seen

abbrev pub file_seen : RackFile → File
file_seen f = record { policy = f.policy; processors = f.processors; records = f.records }

-- the records behind a header that is right, and nothing behind them
abbrev pub with_records : ℕ → Option Policy → ℕ → Result (List Seen × List ℕ) RecordFault → Result File FileFault
with_records whole None processors r = Err fault.Policy
with_records whole (Some p) processors (Err e) = Err (fault.Record e)
with_records whole (Some p) processors (Ok x) =
    cond (length x.1 == 0) (Ok (record { policy = p; processors = processors; records = x.0 })) (Err (fault.Record (Bytes (Trailing (place_in whole x.1)))))

abbrev pub with_header : List ℕ → Option FileFault → Result File FileFault
with_header input (Some f) = Err f
with_header input None = with_records (length input) (policy_named (slice_index input 5)) (slice_index input 6) (read_records (length input) (count_in input) (drop 9 input))

-- the whole file with the limit on the length left aside: its header, its records, and that nothing follows
abbrev pub judging : List ℕ → Result File FileFault
judging input = with_header input (header_fault (length input) input)

-- the whole file: its length first
abbrev pub reading : List ℕ → Result File FileFault
reading input = cond (too_long input) (Err (fault.Record (Bytes TooLong))) (judging input)
