use Rattle.std.proofs.Common.{◌≡◌, suc, ◌+◌, ◌-◌, [], ◌∷◌, ◌++◌, sym, ap, ◌∙◌, arith}
use Rattle.rackfile.specs.Records.{seen_as, read_record}
use Rattle.rackfile.specs.Files.{read_records}
use Rattle.rackfile.proofs.Sequences.{prepend, run_more}
use Rattle.rackfile.proofs.records.Records.judge.Goals as goal

pub loop-preserved : goal.loop-preserved
loop-preserved c =
    let whole = c.args.reader.now.whole in
    let left = c.loop.reader.left.now in
    let k = c.args.count - (c.loop.counter + 1) in
    let n : c.args.count - c.loop.counter ≡ suc k = omega arith in
    let v = seen_as c.in_ok-record.field-0 in
    let one = ap (λ w. read_record w left) (sym c.loop.invariant.2) ∙ c.in_ok-record.ensures.0 in (
      c.loop.invariant.0 ++ v ∷ [],
      c.loop.invariant.1 ∙ ap (λ j. prepend c.loop.invariant.0 (read_records whole j left)) n ∙ run_more whole k left c.record.new.reader.left.now v c.loop.invariant.0 one,
      c.in_ok-record.ensures.1 ∙ c.loop.invariant.2,
    )
