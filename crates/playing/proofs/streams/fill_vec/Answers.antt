use Rattle.std.proofs.Common.{ℕ, sym, subst, vec_capacity, arith, length-take, length-drop}
use Rattle.std.proofs.lemmas.Result.{err_from_is_err_and}
use Rattle.playing.specs.Streams.{TakesUp}
use Rattle.playing.proofs.Moving.{block_failed}
use Rattle.playing.proofs.streams.fill_vec.Goals as goal

pub returns-in_err-came : goal.returns-in_err-came
returns-in_err-came g c =
    let had = g.R.Read.remaining in
    let most = vec_capacity c.args.room in
    let e = err_from_is_err_and c.from_residual.result c.from_residual.ensures.1 in
    subst (TakesUp most (had c.args.reader.now) (had c.fill.new.reader)) (sym e.1)
    (block_failed most (had c.args.reader.now) (had c.loop-block.reader) (had c.fill.new.reader) c.loop-block.room.items c.fill.new.buffer (omega (arith, length-take {A = ℕ}, length-drop {A = ℕ})) c.loop-block.invariant.consumed c.in_err-came.ensures.fills)
