use Rattle.std.proofs.Common.{arith}
use Rattle.machine.proofs.Turns.{seek_found}
use Rattle.machine.proofs.instant.run_first.Goals as goal

pub returns-in-Some : goal.returns-in-Some
returns-in-Some c =
    let d = seek_found c.loop-state.states c.loop-state.state-index (omega arith) c.args.states.now c.in-Some.next c.loop-state.invariant c.in-Some.ensures in
    record { states = d.0; busy = d.1 }
