use Rattle.machine.proofs.Turns.{Seeking}
use Rattle.machine.proofs.instant.run_first.Given as goal

abbrev pub invariant-loop-state : goal.invariant-loop-state
invariant-loop-state l = Seeking l.initial.states l.states l.state-index
