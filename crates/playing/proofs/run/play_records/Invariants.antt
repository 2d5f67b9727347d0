use Rattle.std.proofs.Common.{◌≡◌, ℕ, ◌+◌, true, List, length}
use Rattle.std.specs.Io.KnownBytes.{Appends}
use Rattle.judges.specs.declared.points.Points.{Points}
use Rattle.judges.specs.Meanings.{least_good_point}
use Rattle.preferences.specs.declared.policy.Policy.{Policy}
use Rattle.preferences.specs.Policies.{policy_before}
use Rattle.rack.specs.Steps.{Makes}
use Rattle.rackfile.specs.Format.{all_allowed}
use Rattle.playing.proofs.Midway.{Midway}
use Rattle.playing.proofs.run.play_records.Given as goal

-- the index counts the records; what is written so far goes on to the text, whatever is left
abbrev pub invariant-loop-index : goal.invariant-loop-index
invariant-loop-index g l = record {
  counts : l.index-iterator.a.start + length l.index-iterator.b ≡ length l.fn.records;
  written : (m : ℕ) (judge : Points) (policy : Policy) → Makes (λ _. least_good_point) policy_before m judge policy l.fn.rack → all_allowed l.fn.records ≡ true
      → (done : List ℕ) × Midway policy m l.fn.records l.rack l.sheet l.index-iterator.a.start l.index-iterator.b done × Appends (g.W.Write.contents l.fn.out) (g.W.Write.contents l.out) done;
}
