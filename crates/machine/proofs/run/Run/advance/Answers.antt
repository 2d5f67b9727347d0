use Rattle.std.proofs.Common.{◌≡◌, ◌+◌, ◌-◌, List, length, drop, take_while, sym, ap, ◌∙◌, subst, arith}
use Rattle.std.proofs.lemmas.Bool.{leb-true}
use Rattle.std.proofs.lemmas.List.{length-drop, take_all}
use Rattle.machine.specs.declared.state.Release.{Release}
use Rattle.machine.specs.Cursor.{Cursor}
use Rattle.machine.specs.Machine.{at_instant}
use Rattle.machine.specs.Moments.{is_now}
use Rattle.machine.proofs.Coming.{instant_now, cursor_on}
use Rattle.machine.proofs.Separated.{orderly, near_fits}
use Rattle.machine.proofs.Running.{went_few, allowed_tasks, allowed_lawful}
use Rattle.machine.proofs.run.Run.advance.Goals as goal

pub invariant_of-now : goal.invariant_of-now
invariant_of-now c =
    let self = c.args.self.now in
    record { fits = near_fits self.plan.tasks.now self.clock.instant.0 (allowed_tasks self.plan.tasks.now self.plan.runs).1 (omega (arith, leb-true self.plan.horizon.0 2000000 self.plan.near, self.below)) }

pub after-self-requires-clause-busy : goal.after-self-requires-clause-busy
after-self-requires-clause-busy c =
    let self = c.args.self.now in
    went_few self.plan.tasks.now c.releases_now-releases.result.now self.clock.instant.0 c.args.states.now c.in-Went.busy.0 c.go_by-moment.new.states (sym c.in-Went.ensures)

pub invariant_of-self : goal.invariant_of-self
invariant_of-self c =
    let self = c.args.self.now in
    let ts = self.plan.tasks.now in
    let rs = self.plan.releases.now in
    let t = self.clock.instant.0 in
    let i = self.cursor in
    let now : c.releases_now-releases.result.now ≡ take_while (is_now t) (drop i rs) = c.releases_now-releases.ensures ∙ ap (take_while (is_now t)) (take_all (length rs - i) (drop i rs) (omega (arith, length-drop i rs))) in
    let on = cursor_on ts rs t i (orderly ts self.plan.horizon.0 rs (allowed_lawful ts self.plan.horizon.0 rs self.plan.comes)) self.come in
    let moved = subst (λ (l : List Release). Cursor rs (i + length l) (t + 1)) (sym now) on in
    record {
      below = omega (arith, c.after-self.ensures.instant, c.requires.below);
      come = subst (Cursor rs (i + length c.releases_now-releases.result.now)) (sym c.after-self.ensures.instant) moved;
    }

pub returns-in-Went-clause-step : goal.returns-in-Went-clause-step
returns-in-Went-clause-step c =
    let self = c.args.self.now in
    let ts = self.plan.tasks.now in
    let rs = self.plan.releases.now in
    let t = self.clock.instant.0 in
    let i = self.cursor in
    let ss = c.args.states.now in
    let now : c.releases_now-releases.result.now ≡ take_while (is_now t) (drop i rs) = c.releases_now-releases.ensures ∙ ap (take_while (is_now t)) (take_all (length rs - i) (drop i rs) (omega (arith, length-drop i rs))) in
    sym (instant_now ts rs t i (orderly ts self.plan.horizon.0 rs (allowed_lawful ts self.plan.horizon.0 rs self.plan.comes)) self.come ss) ∙ ap (λ (l : List Release). at_instant ts l t ss) (sym now) ∙ c.in-Went.ensures
