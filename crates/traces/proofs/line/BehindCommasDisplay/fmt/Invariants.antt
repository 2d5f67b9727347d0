use Rattle.std.proofs.Common.{take}
use Rattle.std.specs.Fmt.{HasWritten, IsPlainFormatter}
use Rattle.traces.specs.Traces.{behind_commas}
use Rattle.traces.proofs.line.BehindCommasDisplay.fmt.Given as goal

-- the places gone through are written
abbrev pub invariant-loop-place : goal.invariant-loop-place
invariant-loop-place g l =
    IsPlainFormatter l.initial.f → HasWritten g.W.Write.write_str_gives l.initial.f (behind_commas (take l.place-index l.place-items)) l.f
