-- Records that were judged, and are taken off one at a time.
use Rattle.std.specs.Prelude.{◌≡◌, ℕ, List, [], Ok, Err, Result}
use Rattle.rackfile.specs.declared.fault.RecordFault.{RecordFault}
use Rattle.rackfile.specs.Records.{Seen}
use Rattle.rackfile.specs.Files.{read_records}

abbrev pub records_in : Result (List Seen × List ℕ) RecordFault → List Seen
records_in (Ok x) = x.0
records_in (Err e) = []

-- so many records at the front of what is left of an input
abbrev pub records_at : (whole count : ℕ) → List ℕ → List Seen
records_at whole count left = records_in (read_records whole count left)

-- they can be read
pub record Readable (whole count : ℕ) (left : List ℕ) : Type 0 where
  pub records : List Seen
  pub rest : List ℕ
  pub read : read_records whole count left ≡ Ok (records, rest)
