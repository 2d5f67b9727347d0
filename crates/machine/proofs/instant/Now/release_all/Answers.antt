use Rattle.std.proofs.Common.{[], get_or, set, sym, refl, ap, ◌∙◌}
use Rattle.machine.specs.Cursor.{no_release}
use Rattle.machine.proofs.Coming.{with_none, any_comes, any_stays}
use Rattle.machine.proofs.instant.Now.release_all.Goals as goal
use Rattle.machine.proofs.instant.Now.release_all.Goals.{then-is_due, else-is_due}

pub loop-release-init : goal.loop-release-init
loop-release-init c = sym (with_none [] c.args.self.now.instant.0 0 c.args.self.now.tasks.now c.args.states.now (λ k. refl))

pub loop-release-preserved : goal.loop-release-preserved
loop-release-preserved c =
    let ts = c.args.self.now.tasks.now in
    let rs = c.args.self.now.releases.now in
    let i = c.loop-release.release-index in
    let ss = c.loop-release.states in
    elim c.if-is_due.branch [
      | then-is_due w ↦
          w.states-is ∙ ap (set ss (get_or rs i no_release).place) w.with_job.ensures
          ∙ any_comes ts rs c.args.self.now.instant.0 c.args.states.now c.requires i c.loop-release-test.true ss c.loop-release.invariant w.if-is_due.ensures
      | else-is_due w ↦ w.states-is ∙ any_stays ts rs c.args.self.now.instant.0 c.args.states.now c.requires i c.loop-release-test.true ss c.loop-release.invariant w.if-is_due.ensures
    ]
