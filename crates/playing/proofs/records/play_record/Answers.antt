use Rattle.std.proofs.Common.{sym, refl, ap, ◌∙◌, subst}
use Rattle.tasks.specs.declared.task.Task.{Task}
use Rattle.rackfile.specs.declared.record.Record.{Record}
use Rattle.rackfile.specs.Records.{seen_as}
use Rattle.rack.specs.Steps.{AdmitStep}
use Rattle.lines.specs.Texts as texts
use Rattle.lines.specs.Writing.{Written}
use Rattle.playing.specs.Outcomes.{admission_line, withdrawal_line}
use Rattle.playing.specs.Playing.{Plays}
use Rattle.playing.proofs.Carrying.{admission_told, withdrawal_told}
use Rattle.playing.proofs.records.play_record.Goals as goal

pub returns-in-Admission-clause-played : goal.returns-in-Admission-clause-played
returns-in-Admission-clause-played g c =
    let before = c.args.rack.now in
    let after = c.admit-answer.new.self in
    let index = c.args.index in
    let label = c.in-Admission.label.now in
    let sheet = c.args.sheet.now in
    let sheet' = c.admit-answer.new.sheet in
    let answer = c.admit-answer.result in
    let step = subst (λ (task : Task). AdmitStep g.J.Judge.meaning g.P.Preference.before before task sheet answer sheet' after) c.of.ensures c.admit-answer.ensures.step in
    let told = c.admission_line.ensures ∙ (ap (admission_line index label) c.carried-outcome.ensures
    ∙ admission_told g.J.Judge.meaning g.P.Preference.before before after _ index label sheet sheet' answer c.map_err.result step c.admit-answer.ensures.sound c.map_err.ensures.cases) in
    subst (λ (z : Record). Plays g.J.Judge.meaning g.P.Preference.before before (seen_as z) index sheet c.args.out.now c.write_line.result after sheet' c.write_line.new.out) (sym c.in-Admission.is) (record {
      answer = answer;
      step = step;
      line = subst (λ (l : texts.Seen). Written c.args.out.now c.write_line.new.out l c.write_line.result) told c.write_line.ensures;
    })

pub returns-in-Withdrawal-clause-played : goal.returns-in-Withdrawal-clause-played
returns-in-Withdrawal-clause-played g c =
    let before = c.args.rack.now in
    let after = c.withdraw-answer.new.self in
    let index = c.args.index in
    let number = c.in-Withdrawal.number in
    let sheet = c.args.sheet.now in
    let answer = c.withdraw-answer.result in
    let out = c.write_line-in-Withdrawal.new.out in
    let long = c.write_line-in-Withdrawal.result in
    let told = c.withdrawal_line.ensures ∙ (ap (withdrawal_line index number) c.carried-outcome-in-Withdrawal.ensures
    ∙ withdrawal_told g.J.Judge.meaning g.P.Preference.before before after number index answer c.map_err-in-Withdrawal.result c.withdraw-answer.ensures.step c.withdraw-answer.ensures.sound c.map_err-in-Withdrawal.ensures.cases) in
    subst (λ (z : Record). Plays g.J.Judge.meaning g.P.Preference.before before (seen_as z) index sheet c.args.out.now long after sheet out) (sym c.in-Withdrawal.is) (record {
      answer = answer;
      step = c.withdraw-answer.ensures.step;
      sheet_stays = refl;
      line = subst (λ (l : texts.Seen). Written c.args.out.now out l long) told c.write_line-in-Withdrawal.ensures;
    })
