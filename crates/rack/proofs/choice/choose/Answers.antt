use Rattle.std.proofs.Common.{◌≡◌, ℕ, List, [], length, get_or, Result, sym, ap, ◌∙◌, subst, arith}
use Rattle.std.proofs.lemmas.List.{get_or_default}
use Rattle.seating.specs.Seats.{Lists}
use Rattle.arrayvec.specs.ArrayVec.{ArrayVec}
use Rattle.seating.specs.declared.seat.Seat.{Seat}
use Rattle.rack.specs.declared.choice.Taker.{Taker}
use Rattle.rack.specs.Choices.{Best, Chosen}
use Rattle.rack.proofs.Bests.{offered, declined, chosen_so}
use Rattle.rack.proofs.choice.choose.Goals.{in-Ok, in-Err}
use Rattle.rack.proofs.choice.choose.Goals as goal

pub loop-p-preserved : goal.loop-p-preserved
loop-p-preserved g c =
    let meaning = g.J.Judge.meaning c.args.judge.now in
    let before = g.P.Preference.before c.args.preference.now in
    let laws = g.met.P.Preference.lawful c.args.preference.now in
    let ps = c.args.processors.now.items in
    let p = c.loop-p.p in
    let inv = c.loop-p.invariant in
    let lent = c.deref-processor-items.result.now in
    let ss = c.processor-item.result in
    let here : get_or ps p [] ≡ ss = ap (λ (l : Lists). get_or l p []) (sym c.deref-processor-items.ensures.0) ∙ get_or_default lent p [] ss c.loop-p-test.true ∙ sym c.processor-item.is in
    elim c.match-try_on.branch [
      | in-Ok w ↦ record {
        chosen = offered meaning before laws ps c.args.newcomer p ss here (g.J.Judge.meaning c.loop-p.judge) inv.judge c.loop-p.choice inv.chosen
            (g.P.Preference.before c.loop-p.preference) w.in-Ok.trial w.new-in-Ok.result w.offer.new.self c.match-try_on.choice inv.preference
            w.new-in-Ok.ensures w.offer.ensures.best w.choice-is w.in-Ok.ensures.tried;
        judge = c.try_on.ensures.same ∙ inv.judge;
        preference = ap g.P.Preference.before w.preference-is ∙ w.offer.ensures.same ∙ inv.preference;
      }
      | in-Err w ↦ record {
        chosen = declined meaning before laws ps c.args.newcomer p ss here (g.J.Judge.meaning c.loop-p.judge) inv.judge c.loop-p.choice inv.chosen
            w.in-Err.declined w.entry.result w.push.new.self c.match-try_on.choice w.entry.ensures w.push.ensures.items w.choice-is w.in-Err.ensures.tried;
        judge = c.try_on.ensures.same ∙ inv.judge;
        preference = ap g.P.Preference.before w.preference-is ∙ inv.preference;
      }
    ]

pub returns-clause-chosen : goal.returns-clause-chosen
returns-clause-chosen g c =
    let meaning = g.J.Judge.meaning c.args.judge.now in
    let before = g.P.Preference.before c.args.preference.now in
    let ps = c.args.processors.now.items in
    let choice = c.loop-p.choice in
    let all : c.loop-p.p ≡ length ps = omega (arith, ap (length {A = List Seat}) c.deref-processor-items.ensures.0, c.loop-p-test.false) in
    subst (λ (r : Result Taker (ArrayVec ℕ)). Chosen meaning before ps c.args.newcomer r) (sym c.ok_or.ensures.value)
    (chosen_so meaning before ps c.args.newcomer choice.best choice.entries (subst (λ (k : ℕ). Best meaning before ps c.args.newcomer k choice.entries.items choice.best) all c.loop-p.invariant.chosen.best))
