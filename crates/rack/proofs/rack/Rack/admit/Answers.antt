use Rattle.std.proofs.Common.{sym, subst}
use Rattle.judges.specs.Laws.{Meaning}
use Rattle.preferences.specs.Laws.{Relation}
use Rattle.rack.specs.Choices.{Chosen}
use Rattle.rack.proofs.rack.Rack.admit.Goals as goal

pub settle-requires-clause-chosen : goal.settle-requires-clause-chosen
settle-requires-clause-chosen g c =
    let meaning = g.J.Judge.meaning c.choose-choice.new.judge in
    let before = g.P.Preference.before c.choose-choice.new.preference in
    let b = c.self.inside.processors.items in
    let x = c.args.task in
    let choice = c.choose-choice.result in
    subst (λ (f : Relation). Chosen meaning f b x choice) (sym c.choose-choice.ensures.preference)
    (subst (λ (m : Meaning). Chosen m (g.P.Preference.before c.self.inside.preference) b x choice) (sym c.choose-choice.ensures.judge) c.choose-choice.ensures.chosen)
