use Rattle.std.proofs.Common.{◌≡◌}
use Rattle.rack.specs.Choices.{ChosenSoFar}
use Rattle.rack.proofs.choice.choose.Given as goal

abbrev pub invariant-loop-p : goal.invariant-loop-p
invariant-loop-p g l = record {
  chosen : ChosenSoFar (g.J.Judge.meaning l.initial.judge) (g.P.Preference.before l.initial.preference) l.processors.items l.newcomer l.p l.choice;
  judge : g.J.Judge.meaning l.judge ≡ g.J.Judge.meaning l.initial.judge;
  preference : g.P.Preference.before l.preference ≡ g.P.Preference.before l.initial.preference;
}
