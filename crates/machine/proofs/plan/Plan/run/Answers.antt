use Rattle.std.proofs.Common.{◌≡◌, ◌+◌, ◌-◌, length, replicate, Some, sym, ap, ◌∙◌, subst}
use Rattle.std.proofs.lemmas.List.{length-take-le}
use Rattle.std.proofs.lemmas.Bool.{ltb-true}
use Rattle.machine.specs.declared.state.State.TheVariants.{Idle}
use Rattle.machine.specs.declared.clock.Clock.{Clock}
use Rattle.machine.specs.declared.plan.Plan.{Plan}
use Rattle.machine.specs.Machine.{run, outcome, at_instant, missed, went, ended}
use Rattle.machine.proofs.Running.{none_run, missed_ends, went_on, allowed_tasks}
use Rattle.machine.proofs.plan.Plan.run.Goals as goal

pub loop-run-init : goal.loop-run-init
loop-run-init c =
    let self = c.args.self.now in
    let few = (allowed_tasks self.tasks.now self.runs).0 in (
      c.start-run.ensures.plan,
      length-take-le (length self.tasks.now) (replicate 33 Idle) few,
      none_run self.tasks.now self.releases.now self.horizon.0 c.start-run.result.clock.instant.0 c.start-run.result.clock.busy.0 few c.start-run.ensures.instant c.start-run.ensures.busy,
    )

pub returns-in-Missed : goal.returns-in-Missed
returns-in-Missed c =
    let self = c.args.self.now in
    let t = c.loop-run.run.clock.instant.0 in
    let step = subst (λ (p : Plan). missed c.in-Missed.place ≡ at_instant p.tasks.now p.releases.now t c.loop-run.states) c.loop-run.invariant.0 (sym c.in-Missed.ensures.step.0) in
    c.ending.ensures ∙ ap (λ (k : Clock). ended (Some c.in-Missed.place) k.instant.0 k.busy.0) c.in-Missed.ensures.clock
    ∙ missed_ends self.tasks.now self.releases.now self.horizon.0 t c.loop-run.run.clock.busy.0 c.loop-run.states c.loop-run.invariant.2 (ltb-true t self.horizon.0 (sym c.loop-run-test.ensures)) c.in-Missed.place step

pub loop-run-preserved : goal.loop-run-preserved
loop-run-preserved c =
    let self = c.args.self.now in
    let ts = self.tasks.now in
    let rs = self.releases.now in
    let h = self.horizon.0 in
    let old = c.loop-run.run.clock in
    let new = c.advance.new.self.clock in
    let next = c.advance.new.states in
    let b = c.in_default.field-0.0 in
    let moved = c.in_default.ensures.clock in
    let step = subst (λ (p : Plan). went b next ≡ at_instant p.tasks.now p.releases.now old.instant.0 c.loop-run.states) c.loop-run.invariant.0 (sym c.in_default.ensures.step) in
    let rest = went_on ts rs h old.instant.0 old.busy.0 c.loop-run.states c.loop-run.invariant.2 (ltb-true old.instant.0 h (sym c.loop-run-test.ensures)) b next step in
    let later = subst (λ i. run ts rs (h - i) i (old.busy.0 + b) next ≡ outcome ts h rs) (sym moved.0) rest in (
      c.in_default.ensures.plan ∙ c.loop-run.invariant.0,
      c.advance.auto.states ∙ c.loop-run.invariant.1,
      subst (λ k. run ts rs (h - new.instant.0) new.instant.0 k next ≡ outcome ts h rs) (sym moved.1) later,
    )
