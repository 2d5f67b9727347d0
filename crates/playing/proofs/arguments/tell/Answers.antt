use Rattle.std.specs.Io.Buffered.{writer_contents}
use Rattle.playing.proofs.Whole.{told_on}
use Rattle.playing.proofs.arguments.tell.Goals as goal

pub returns-clause-text : goal.returns-clause-text
returns-clause-text g c =
    let held = writer_contents g.W.Write.contents in
    told_on c.args.text.now (held c.args.out.now) (held c.put.new.writer) (held c.finish.new.out) c.finish.result c.in_ok-put.ensures.puts c.finish.ensures.kept
