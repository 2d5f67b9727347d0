use Rattle.std.proofs.Common.{◌≡◌, length, drop}
use Rattle.machine.specs.Lawful.{lawful}
use Rattle.machine.specs.Separation.{lawful_after}
use Rattle.machine.proofs.checks.is_lawful.Given as goal

abbrev pub invariant-loop-release : goal.invariant-loop-release
invariant-loop-release l =
    (lawful_after l.tasks l.horizon.0 l.last.0 l.free (drop l.release-index l.releases) ≡ lawful l.tasks l.horizon.0 l.releases)
    × (length l.free ≡ 33)
