use Rattle.std.proofs.Common.{List, [], length, sym, refl, ap, ◌∙◌, subst}
use Rattle.std.proofs.lemmas.List.{length-replicate}
use Rattle.seating.specs.declared.seat.Seat.{Seat}
use Rattle.seating.specs.Seats.{Lists}
use Rattle.rack.specs.Steps.{Run}
use Rattle.rack.specs.Table.{Sound}
use Rattle.rack.proofs.Soundness.{free_sound}
use Rattle.rack.proofs.Living.{whole_life}
use Rattle.rack.proofs.rack.Rack.make.Goals as goal

pub invariant_of-result : goal.invariant_of-result
invariant_of-result g c =
    subst Sound (sym c.free_processors.ensures) (free_sound c.args.processors (sym c.if-not-may_have.ensures))

pub returns : goal.returns
returns g c =
    let m = c.args.processors in
    let size = sym c.if-not-may_have.ensures in
    record {
      size = size;
      free = c.free_processors.ensures;
      processors = ap (length {A = List Seat}) c.free_processors.ensures ∙ length-replicate m [];
      judge = refl;
      preference = refl;
      whole_life = λ es run. whole_life g.J.Judge.meaning g.P.Preference.before g.met.J.Judge.lawful m size c.args.judge c.args.preference es
          (subst (λ (b : Lists). Run g.J.Judge.meaning g.P.Preference.before (record { lists = b; judge = c.args.judge; preference = c.args.preference }) es) c.free_processors.ensures run);
    }
