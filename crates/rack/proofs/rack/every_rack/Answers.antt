use Rattle.std.proofs.Common.{[], get_or, subst}
use Rattle.seating.specs.Seats.{tasks_of, load_of}
use Rattle.book.proofs.Single.{one_admitted, one_withdrawn, one_found, one_told}
use Rattle.rack.specs.Table.{Table, Sound}
use Rattle.rack.proofs.rack.every_rack.Goals as goal

pub returns : goal.returns
returns g c =
    let r = c.args.rack.now in
    let b = r.lists in
    let sound : Sound b = subst (λ (t : Table g.row.J.Denot g.row.P.Denot). Sound t.lists) c.rack.view_is c.rack.invariant in
    record {
      sound = sound;
      one_admission = one_admitted (g.J.Judge.meaning r.judge) (g.met.J.Judge.lawful r.judge) (g.P.Preference.before r.preference) (g.met.P.Preference.lawful r.preference) b
          (λ q h. let k = sound.kept_well q h in (k.limits, k.instants));
      one_withdrawal = one_withdrawn b sound.differ;
      one_finding = one_found b sound.differ;
      one_load = λ p. one_told b p (load_of (tasks_of (get_or b p [])));
      one_list = λ p. one_told b p (get_or b p []);
    }
