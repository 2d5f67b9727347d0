-- Laws above the faults: what more bytes, and fewer, do to them, and what they say of the input.
use Rattle.std.specs.Prelude.{◌≡◌, ℕ, ◌+◌, ◌^◌, ◌<◌, ◌≤◌, true, false, cond, ◌↔◌, ◌⊎◌, is_some, None, List, ◌++◌, length, take, slice_index, Ok, Err, Result, ◌≢◌}
use Rattle.rackfile.specs.declared.fault.RecordFault.TheVariants.{Bytes, Tag, Label}
use Rattle.rackfile.specs.declared.fault.FileFault.{FileFault}
use Rattle.rackfile.specs.declared.fault.FileFault.TheVariants as fault
use Rattle.rackfile.specs.Faults.{number_of, place_of}
use Rattle.preferences.specs.declared.policy.Policy.{Policy}
use Rattle.preferences.specs.Policies.{policy_named}
use Rattle.rackfile.specs.Records.{Seen, printable, length_allowed}
use Rattle.rackfile.specs.Files.{File, cut, right_mark, right_version, processors_allowed, count_in, judging, reading}
use Rattle.rackfile.specs.Format.{header_bytes, records_bytes, file_bytes, all_allowed, all_placed, Stands}
use Rattle.rackfile.specs.Exact.{AreBytes}

-- a fault that a field shows by what it holds
abbrev pub IsShown : FileFault → Type 0
IsShown f = (13 ≤ number_of f) × (number_of f ≤ 16)

-- A fault of 13 to 17 stays the same whatever bytes follow, as long as the whole is short enough for a file.
abbrev pub FaultsStay : Type 0
FaultsStay = (input more : List ℕ) (f : FileFault) → reading input ≡ Err f → 13 ≤ number_of f → number_of f ≤ 17 → length (input ++ more) ≤ 65536 → reading (input ++ more) ≡ Err f

-- A record begins at a place: before it stand a header and whole records, all of them allowed, and fewer than the header counts.
pub record BeginsRecord (input : List ℕ) (place : ℕ) : Type 0 where
  pub policy : Policy
  pub processors : ℕ
  pub records : List Seen
  pub before : take place input ≡ header_bytes policy processors (count_in input) ++ records_bytes records
  pub right_processors : processors_allowed processors ≡ true
  pub allowed : all_allowed records ≡ true
  pub fewer : length records < count_in input

-- so many bytes of text belong to a label whose length says n: a length that is not allowed is shown at once
abbrev pub text_length : ℕ → ℕ
text_length n = cond (length_allowed n) n 0

-- A label with a fault at a place: an admission begins at `start` with its tag A, behind whole records where the input is bytes; the label's length stands
-- 13 bytes on, and its text behind that.
pub record EndsLabel (input : List ℕ) (place end : ℕ) : Type 0 where
  pub start : ℕ
  pub begins : AreBytes input → BeginsRecord input start
  pub admission : slice_index input start ≡ 65
  pub label : start + 13 ≤ place
  pub fault : place < end
  pub text : end ≡ start + 14 + text_length (slice_index input (start + 13))

-- where the field ends that shows a fault
abbrev pub EndsField : List ℕ → FileFault → ℕ → Type 0
EndsField input fault.Mark end = end ≡ 3
EndsField input fault.Version end = end ≡ 5
EndsField input fault.Policy end = end ≡ 6
EndsField input fault.Processors end = end ≡ 7
EndsField input (fault.Record (Tag place)) end = end ≡ place + 1
EndsField input (fault.Record (Label place)) end = EndsLabel input place end
EndsField input (fault.Record (Bytes e)) end = ⊥

-- A fault of 13 to 16 is there as soon as the field that shows it is whole: an input that is cut behind the field has the same fault, and
-- one that is cut before the field's end has 12 at its own length.
pub record ShownFrom (input : List ℕ) (f : FileFault) (end : ℕ) : Type 0 where
  pub field : EndsField input f end
  pub within : end ≤ length input
  pub behind : (k : ℕ) → end ≤ k → reading (take k input) ≡ Err f
  pub before : (k : ℕ) → k < end → reading (take k input) ≡ Err (cut k)

abbrev pub FaultsShow : Type 0
FaultsShow = (input : List ℕ) (f : FileFault) → reading input ≡ Err f → IsShown f → (end : ℕ) × ShownFrom input f end

-- what is wrong with a label whose length stands at `at`: that length, or, where it is allowed, the first byte of its text that is not printable
abbrev pub IsWrongLabel : List ℕ → ℕ → ℕ → Type 0
IsWrongLabel input at place =
    ((place ≡ at) × (length_allowed (slice_index input at) ≡ false))
    ⊎ ((length_allowed (slice_index input at) ≡ true) × (at < place) × (place ≤ at + slice_index input at) × (printable (slice_index input place) ≡ false) × ((k : ℕ) → at < k → k < place → printable (slice_index input k) ≡ true))

-- What a fault of 13 to 16 says of the input: all before its place is as it must be, and what stands there is not.
abbrev pub Tells : List ℕ → FileFault → Type 0
Tells input fault.Mark = right_mark input ≡ false
Tells input fault.Version = (right_mark input ≡ true) × (right_version input ≡ false)
Tells input fault.Policy = (right_mark input ≡ true) × (right_version input ≡ true) × (policy_named (slice_index input 5) ≡ None)
Tells input fault.Processors = (right_mark input ≡ true) × (right_version input ≡ true) × (is_some (policy_named (slice_index input 5)) ≡ true) × (processors_allowed (slice_index input 6) ≡ false)
Tells input (fault.Record (Tag place)) = BeginsRecord input place × (slice_index input place ≢ 65) × (slice_index input place ≢ 87)
Tells input (fault.Record (Label place)) = (start : ℕ) × BeginsRecord input start × (slice_index input start ≡ 65) × IsWrongLabel input (start + 13) place
Tells input (fault.Record (Bytes e)) = ⊥

abbrev pub FaultsTell : Type 0
FaultsTell = (input : List ℕ) (f : FileFault) → AreBytes input → reading input ≡ Err f → IsShown f → Tells input f

-- reading the input ends with a fault of this number at this place
abbrev pub HasFault : List ℕ → ℕ → ℕ → Type 0
HasFault input number place = (f : FileFault) × (reading input ≡ Err f) × (number_of f ≡ number) × (place_of f ≡ place)

-- An input has 17 at a place exactly where the bytes before that place are a file, and more bytes follow.
abbrev pub TrailingExactly : Type 0
TrailingExactly = (input : List ℕ) (place : ℕ) → AreBytes input → length input ≤ 65536 → HasFault input 17 place ↔ ((place < length input) × (g : File) × Stands (take place input) g)

-- a file, or a fault that a field shows
abbrev pub Settled : Result File FileFault → Type 0
Settled (Ok f) = Unit {0}
Settled (Err f) = IsShown f

-- Bytes could follow with which the whole, were it never too long, would be a file or show a fault, and the input alone does not say so yet.
abbrev pub CouldGoOn : List ℕ → Type 0
CouldGoOn input = (more : List ℕ) × AreBytes more × Settled (judging (input ++ more)) × (judging (input ++ more) ≢ judging input)

-- An input has 12 exactly where it could go on so, and then at its own length.
pub record CutExactly : Type 0 where
  pub could_go_on : (input : List ℕ) → AreBytes input → length input ≤ 65536 → HasFault input 12 (length input) ↔ CouldGoOn input
  pub at_the_end : (input : List ℕ) (place : ℕ) → HasFault input 12 place → place ≡ length input

-- An input has 11 exactly above 65,536 bytes.
abbrev pub TooLongExactly : Type 0
TooLongExactly = (input : List ℕ) → HasFault input 11 65536 ↔ (65536 < length input)

-- For every file within the limits, its bytes are bytes, and reading them gives that file.
abbrev pub FileReadsBack : Type 0
FileReadsBack = (f : File) → processors_allowed f.processors ≡ true → length f.records < 2 ^ 16 → all_allowed f.records ≡ true → all_placed 9 f.records ≡ true
    → length (file_bytes f) ≤ 65536 → AreBytes (file_bytes f) × (reading (file_bytes f) ≡ Ok f)
