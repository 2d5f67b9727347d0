use Rattle.std.specs.Io.Buffered.{writer_contents}
use Rattle.playing.proofs.Whole.{whole_run}
use Rattle.playing.proofs.run.play.Goals as goal

pub returns-clause-whole : goal.returns-clause-whole
returns-clause-whole g c =
    let had = g.R.Read.remaining in
    let held = writer_contents g.W.Write.contents in
    whole_run (had c.args.reader.now) (had c.read_input.new.reader) (held c.args.out.now) (held c.write_out.new.out) c.in_ok-input.input.items c.as_slice.result.now c.in_ok-input.ensures c.as_slice.ensures.value c.write_out.result c.map_err.result
    c.write_out.ensures.text c.map_err.ensures.cases
