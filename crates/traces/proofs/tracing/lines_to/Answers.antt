use Rattle.std.proofs.Common.{string_bytes, ◌∙◌}
use Rattle.traces.proofs.Instants.{states_first, states_next, lines_next}
use Rattle.traces.proofs.tracing.lines_to.Goals as goal

pub loop-at-init : goal.loop-at-init
loop-at-init c = (states_first c.args.tasks.now c.args.releases.now c.requires.few, c.new-text.ensures.bytes)

pub loop-at-preserved : goal.loop-at-preserved
loop-at-preserved c =
    let ts = c.args.tasks.now in
    let rs = c.args.releases.now in
    let k = c.loop-at.at in
    let next = states_next ts rs k c.loop-at.states c.step.new.states c.loop-at.invariant.0 c.step.result c.step.ensures (c.requires.fits k c.loop-at-test.true) (c.requires.misses k c.loop-at-test.true) in
    let due = c.as_slice.ensures.value ∙ c.in_ok-due.ensures in
    let released = c.as_slice-in-loop-at.ensures.value ∙ c.in_ok-released.ensures in
    (next, lines_next ts rs k c.loop-at.states c.step.new.states c.loop-at.invariant.0 c.as_slice.result.now due (string_bytes c.loop-at.text) (string_bytes c.write.new.self) c.as_slice-in-loop-at.result.now c.served_place-served.result c.loop-at.invariant.1 c.in_ok-write.ensures.bytes released c.served_place-served.ensures next)
