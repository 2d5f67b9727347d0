use Rattle.std.proofs.Common.{refl, ap, inr}
use Rattle.rack.specs.Table.{Table}
use Rattle.rack.proofs.Granting.{away, granted, still_sound}
use Rattle.rack.proofs.rack.Rack.settle.Goals as goal

pub invariant_of-self : goal.invariant_of-self
invariant_of-self g c =
    let r = c.args.self.now in
    let is = ap (λ (t : Table g.row.J.Denot g.row.P.Denot). t.lists) c.self.view_is in
    still_sound _ (g.met.J.Judge.lawful r.judge) (g.P.Preference.before r.preference) r.lists c.args.newcomer c.args.sheet.now c.requires.passes c.args.choice c.requires.chosen c.self.inside.processors.items is c.self.invariant
    c.in-Ok.taker c.in-Ok.is c.deref_mut.result.now c.deref_mut.ensures.value c.index-deref_mut-p.result c.join.new.self c.join.ensures

pub returns-in-Ok-clause-admits : goal.returns-in-Ok-clause-admits
returns-in-Ok-clause-admits g c =
    let r = c.args.self.now in
    let is = ap (λ (t : Table g.row.J.Denot g.row.P.Denot). t.lists) c.self.view_is in
    granted _ (g.met.J.Judge.lawful r.judge) (g.P.Preference.before r.preference) r.lists c.args.newcomer c.args.sheet.now c.requires.passes c.args.choice c.requires.chosen c.self.inside.processors.items is c.self.invariant
    c.in-Ok.taker c.in-Ok.is c.deref_mut.result.now c.deref_mut.ensures.value c.index-deref_mut-p.result c.join.new.self c.join.ensures c.deref.result.now c.deref.ensures.0

pub returns-in-Ok-clause-sound : goal.returns-in-Ok-clause-sound
returns-in-Ok-clause-sound = invariant_of-self

pub returns-in-Err-clause-admits : goal.returns-in-Err-clause-admits
returns-in-Err-clause-admits g c =
    let r = c.args.self.now in
    let is = ap (λ (t : Table g.row.J.Denot g.row.P.Denot). t.lists) c.self.view_is in
    inr (
      refl,
      away _ (g.met.J.Judge.lawful r.judge) (g.P.Preference.before r.preference) r.lists c.args.newcomer c.args.sheet.now c.requires.passes c.args.choice c.requires.chosen c.self.inside.processors.items is c.self.invariant
          c.in-Err.entries c.in-Err.is c.deref-in-Err.result.now c.fill.new.sheet c.deref-in-Err.ensures.0 c.fill.ensures,
    )
