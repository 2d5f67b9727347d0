use Rattle.std.proofs.Common.{◌≡◌, ℕ, ◌+◌, ◌-◌, ◌<◌, ◌≤◌, length, get_or, Some}
use Rattle.tasks.specs.Units.{no_ticks}
use Rattle.seating.specs.Admission.{said}
use Rattle.rack.proofs.trial.judge_from.Given as goal

abbrev pub invariant-loop-below : goal.invariant-loop-below
invariant-loop-below g l = record {
  count : length l.instants.items ≡ l.below;
  same : g.J.Judge.meaning l.judge ≡ g.J.Judge.meaning l.initial.judge;
  each : (k : ℕ) → l.from ≤ k → k < l.from + l.below → said (g.J.Judge.meaning l.initial.judge) l.tasks.items k ≡ Some (get_or l.instants.items (k - l.from) no_ticks);
}
