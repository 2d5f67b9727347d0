-- What the vector holds so far came from the reader, and it has room for the rest.
use Rattle.std.proofs.Common.{◌-◌, ◌≤◌, vec_len, vec_capacity}
use Rattle.std.specs.Io.KnownBytes.{Consumes}
use Rattle.rackfile.specs.Exact.{AreBytes}
use Rattle.playing.proofs.streams.fill_vec.Given as goal

abbrev pub invariant-loop-block : goal.invariant-loop-block
invariant-loop-block g l = record {
  within : vec_len l.room ≤ l.most;
  roomy : l.most ≤ vec_capacity l.room;
  consumed : Consumes (g.R.Read.remaining l.initial.reader) (g.R.Read.remaining l.reader) l.room.items;
  bytes : AreBytes l.room.items;
}

abbrev pub decreases-loop-block : goal.decreases-loop-block
decreases-loop-block g l = l.most - vec_len l.room
