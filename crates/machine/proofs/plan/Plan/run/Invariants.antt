use Rattle.std.proofs.Common.{◌≡◌, ◌-◌, length}
use Rattle.machine.specs.Machine.{run, outcome}
use Rattle.machine.proofs.plan.Plan.run.Given as goal

abbrev pub invariant-loop-run : goal.invariant-loop-run
invariant-loop-run l =
    (l.run.plan ≡ l.self) × (length l.states ≡ length l.self.tasks.now)
    × (run l.self.tasks.now l.self.releases.now (l.self.horizon.0 - l.run.clock.instant.0) l.run.clock.instant.0 l.run.clock.busy.0 l.states ≡ outcome l.self.tasks.now l.self.horizon.0 l.self.releases.now)

abbrev pub decreases-loop-run : goal.decreases-loop-run
decreases-loop-run l = l.self.horizon.0 - l.run.clock.instant.0
