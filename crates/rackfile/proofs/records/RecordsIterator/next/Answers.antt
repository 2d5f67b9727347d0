use Rattle.rackfile.proofs.Sequences.{readable_behind}
use Rattle.rackfile.proofs.records.RecordsIterator.next.Goals as goal

pub invariant_of-self : goal.invariant_of-self
invariant_of-self c =
    let taken = c.in_ok-self-inside.ensures in
    readable_behind c.self.inside.count c.in_ok-self-inside.field-0 c.self.inside.front c.record.new.reader c.record.result taken.0 taken.1 c.self.invariant c.record.ensures
