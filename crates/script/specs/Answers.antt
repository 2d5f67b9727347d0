-- What each call is answered.
use Rattle.std.specs.Prelude.{Some, None, Ok, Err, Option}
use Rattle.tasks.specs.Demand.{demand_answer}
use Rattle.tasks.specs.Share.{share_answer}
use Rattle.judges.specs.Meanings.{least_good_point, least_good_instant}
use Rattle.machine.specs.declared.state.Outcome.{Outcome}
use Rattle.machine.specs.declared.refusal.Refusal.{Refusal}
use Rattle.machine.specs.Machine.{outcome}
use Rattle.machine.specs.Refusals.{first_cause}
use Rattle.script.specs.declared.answers.Answer.{Answer}
use Rattle.script.specs.declared.answers.Answer.TheVariants as answer
use Rattle.script.specs.Calls.{SeenRun, Seen, judges, demands, shares, rehearses, traces}

-- how the run ends, unless there is a cause to refuse it
abbrev pub unless_refused : Option Refusal → Outcome → Answer
unless_refused None o = answer.Run (Ok o)
unless_refused (Some refusal) o = answer.Run (Err refusal)

abbrev pub run_answer : SeenRun → Answer
run_answer run = unless_refused (first_cause run.tasks run.horizon.0 run.releases) (outcome run.tasks run.horizon.0 run.releases)

abbrev pub answer_to : Seen → Answer
answer_to (judges task above) = answer.Instants (least_good_point task above) (least_good_instant task above)
answer_to (demands task at above) = answer.Demand (demand_answer task above at.0)
answer_to (shares task) = answer.Share (share_answer task)
answer_to (rehearses run) = run_answer run
answer_to (traces run) = run_answer run
