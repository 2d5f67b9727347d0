use Rattle.std.specs.Io.Buffered.{writer_contents}
use Rattle.playing.specs.Lines.{PlayerText}
use Rattle.playing.proofs.Whole.{handed_on}
use Rattle.playing.proofs.run.write_out.Goals as goal

pub returns-clause-text : goal.returns-clause-text
returns-clause-text g c =
    let held = writer_contents g.W.Write.contents in
    handed_on (PlayerText c.args.input.now) (held c.args.out.now) (held c.write_text.new.out) (held c.finish.new.out) c.finish.result c.in_ok-write_text.ensures c.finish.ensures.kept
