use Rattle.std.proofs.Common.{◌≡◌, take}
use Rattle.machine.specs.Machine.{with_releases}
use Rattle.machine.proofs.instant.Now.release_all.Given as goal

abbrev pub invariant-loop-release : goal.invariant-loop-release
invariant-loop-release l = l.states ≡ with_releases (take l.release-index l.self.releases.now) l.self.instant.0 0 l.self.tasks.now l.initial.states
