use Rattle.std.proofs.Common.{◌≡◌, string_bytes}
use Rattle.machine.specs.Traces.{states_at}
use Rattle.traces.specs.Traces.{lines_below}
use Rattle.traces.proofs.tracing.lines_to.Given as goal

abbrev pub invariant-loop-at : goal.invariant-loop-at
invariant-loop-at l = (l.states ≡ states_at l.tasks l.releases l.at) × (string_bytes l.text ≡ lines_below l.tasks l.releases l.at)
