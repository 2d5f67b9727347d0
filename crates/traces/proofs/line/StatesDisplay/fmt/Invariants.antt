use Rattle.std.proofs.Common.{take}
use Rattle.std.specs.Fmt.{HasWritten, IsPlainFormatter}
use Rattle.traces.specs.Traces.{states_text}
use Rattle.traces.proofs.line.StatesDisplay.fmt.Given as goal

-- the states gone through are written
abbrev pub invariant-loop-state : goal.invariant-loop-state
invariant-loop-state g l =
    IsPlainFormatter l.initial.f → HasWritten g.W.Write.write_str_gives l.initial.f (states_text (take l.state-index l.state-items)) l.f
