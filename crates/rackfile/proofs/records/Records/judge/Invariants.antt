use Rattle.std.proofs.Common.{◌≡◌, ◌-◌, List}
use Rattle.rackfile.specs.Records.{Seen}
use Rattle.rackfile.specs.Files.{read_records}
use Rattle.rackfile.proofs.Sequences.{prepend}
use Rattle.rackfile.proofs.records.Records.judge.Given as goal

-- some records were passed over; they and what is left give the whole
abbrev pub invariant-loop : goal.invariant-loop
invariant-loop l =
    (passed : List Seen)
    × (read_records l.initial.reader.whole l.count l.initial.reader.left.now ≡ prepend passed (read_records l.initial.reader.whole (l.count - l.counter) l.reader.left.now))
    × (l.reader.whole ≡ l.initial.reader.whole)
