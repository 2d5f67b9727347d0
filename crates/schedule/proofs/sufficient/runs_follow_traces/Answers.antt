use Rattle.schedule.proofs.Runs.{runs_follow_traces}
use Rattle.schedule.proofs.sufficient.runs_follow_traces.Goals as goal

pub returns : goal.returns
returns c = runs_follow_traces
