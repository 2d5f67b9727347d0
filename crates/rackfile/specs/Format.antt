-- The format: the bytes that a file stands in.
use Rattle.std.specs.Prelude.{◌≡◌, ℕ, ◌+◌, ◌/◌, ◌%◌, ◌^◌, ◌<◌, ◌≤◌, Bool, true, ◌&&◌, List, [], ◌∷◌, ◌++◌, length, ◌==◌, nat_lt}
use Rattle.std.specs.List.{list_all}
use Rattle.preferences.specs.declared.policy.Policy.{Policy}
use Rattle.preferences.specs.Policies.{letter_of}
use Rattle.rackfile.specs.Records.{Seen, admits, withdraws, tag_of, printable, length_allowed}
use Rattle.rackfile.specs.Files.{File, processors_allowed}

-- numbers are big-endian: 16 bits and 32
abbrev pub half : ℕ → List ℕ
half n = n / 256 ∷ (n % 256 ∷ [])

abbrev pub word : ℕ → List ℕ
word n = n / 16777216 ∷ (n / 65536 % 256 ∷ (n / 256 % 256 ∷ (n % 256 ∷ [])))

-- the mark RAK, version 1, the policy's letter, the number of processors, and the count of records
abbrev pub header_bytes : Policy → ℕ → ℕ → List ℕ
header_bytes policy processors count = 82 ∷ (65 ∷ (75 ∷ (half 1 ++ (letter_of policy ∷ (processors ∷ half count)))))

-- an admission: its tag, number, work and period, the length of its label, and the label; a withdrawal: its tag and number
abbrev pub record_bytes : Seen → List ℕ
record_bytes (admits number work period label place) = tag_of (admits number work period label place) ∷ (word number ++ (word work ++ (word period ++ (length label ∷ label))))
record_bytes (withdraws number) = tag_of (withdraws number) ∷ word number

abbrev pub records_bytes : List Seen → List ℕ
records_bytes [] = []
records_bytes (r ∷ rs) = record_bytes r ++ records_bytes rs

abbrev pub file_bytes : File → List ℕ
file_bytes f = header_bytes f.policy f.processors (length f.records) ++ records_bytes f.records

-- what a record may hold: numbers of 32 bits, and a label of 1 to 16 printable bytes
abbrev pub record_allowed : Seen → Bool
record_allowed (admits number work period label place) =
    nat_lt number (2 ^ 32) && (nat_lt work (2 ^ 32) && (nat_lt period (2 ^ 32) && (length_allowed (length label) && list_all printable label)))
record_allowed (withdraws number) = nat_lt number (2 ^ 32)

abbrev pub all_allowed : List Seen → Bool
all_allowed [] = true
all_allowed (r ∷ rs) = record_allowed r && all_allowed rs

-- each label says its place in the input, where the records begin at `at`: behind the tag, three numbers and the length
abbrev pub all_placed : ℕ → List Seen → Bool
all_placed at [] = true
all_placed at (admits number work period label place ∷ rs) = place == at + 14 && all_placed (at + 14 + length label) rs
all_placed at (withdraws number ∷ rs) = all_placed (at + 5) rs

-- the bytes stand for a file
pub record Stands (input : List ℕ) (f : File) : Type 0 where
  pub bytes : input ≡ file_bytes f
  pub short : length input ≤ 65536
  pub processors : processors_allowed f.processors ≡ true
  pub few : length f.records < 2 ^ 16
  pub allowed : all_allowed f.records ≡ true
  pub places : all_placed 9 f.records ≡ true
