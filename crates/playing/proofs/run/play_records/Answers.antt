use Rattle.std.proofs.Common.{◌≡◌, [], ◌∷◌, ◌++◌, length, take, sym, ap, ◌∙◌, subst, inl, inr, arith}
use Rattle.rackfile.specs.Records.{seen_as}
use Rattle.std.proofs.lemmas.Result.{err_from_is_err_and}
use Rattle.book.specs.Book.{new_book}
use Rattle.playing.specs.Lines.{Lines, blank_sheet}
use Rattle.playing.specs.Running.{Writes}
use Rattle.playing.proofs.Midway.{Midway, begun, ended, front}
use Rattle.playing.proofs.Turning.{turn}
use Rattle.std.proofs.KnownBytes.{Appends-nil, Appends-trans}
use Rattle.playing.proofs.Appending.{front_written}
use Rattle.playing.proofs.run.play_records.Goals as goal

pub loop-index-init : goal.loop-index-init
loop-index-init g c =
    let from = ap (λ z. z.a.start) c.into_iter-index-iterator.ensures.into_iter_gives ∙ ap (λ a. a.start) c.zip-index-items.ensures.first in
    let left = ap (λ z. z.b) c.into_iter-index-iterator.ensures.into_iter_gives ∙ c.zip-index-items.ensures.second in
    record {
      counts = omega (arith, from, ap length left);
      written = λ m judge policy made allowed.
          let k = begun policy m c.args.records judge c.args.rack.now allowed made in
          let sheet = 0 ∷ (0 ∷ (0 ∷ (0 ∷ (0 ∷ (0 ∷ (0 ∷ (0 ∷ (0 ∷ (0 ∷ (0 ∷ (0 ∷ (0 ∷ (0 ∷ (0 ∷ (0 ∷ []))))))))))))))) in
          let there : Midway policy m c.args.records c.args.rack.now sheet 0 c.args.records [] = k in (
            [],
            subst (λ n. Midway policy m c.args.records c.args.rack.now sheet n c.into_iter-index-iterator.result.b []) (sym from)
                (subst (λ l. Midway policy m c.args.records c.args.rack.now sheet 0 l []) (sym left) there),
            Appends-nil _,
          );
    }

pub loop-index-preserved : goal.loop-index-preserved
loop-index-preserved g c =
    let q = c.in-Some.ensures.steps in
    record {
      counts = omega (arith, c.loop-index.invariant.counts, q.0.0, q.0.1, ap length q.1);
      written = λ m judge policy made allowed.
          let (done, k, w) = c.loop-index.invariant.written m judge policy made allowed in
          let one = c.in_ok-play_out.ensures in
          let line = take one.long c.play_out.new.line in (
            done ++ line,
            turn policy m c.args.records c.loop-index.rack c.play_out.new.rack c.loop-index.sheet c.play_out.new.sheet c.loop-index.index-iterator.a.start c.next.new.self.a.start c.in-Some.index
                (seen_as c.in-Some.record) c.loop-index.index-iterator.b c.next.new.self.b done c.loop-index.line c.play_out.new.line one.long k q.0 q.1 one.plays,
            Appends-trans (g.W.Write.contents c.args.out.now) (g.W.Write.contents c.loop-index.out) (g.W.Write.contents c.play_out.new.out) done line w one.puts,
          );
    }

pub returns-in_err-play_out : goal.returns-in_err-play_out
returns-in_err-play_out g c = λ m judge policy made allowed few.
    let (done, k, w) = c.loop-index.invariant.written m judge policy made allowed in
    let one = c.in_err-play_out.ensures in
    let line = take one.long c.play_out.new.line in
    let q = c.in-Some.ensures.steps in
    let after = turn policy m c.args.records c.loop-index.rack c.play_out.new.rack c.loop-index.sheet c.play_out.new.sheet c.loop-index.index-iterator.a.start c.next.new.self.a.start c.in-Some.index
    (seen_as c.in-Some.record) c.loop-index.index-iterator.b c.next.new.self.b done c.loop-index.line c.play_out.new.line one.long k q.0 q.1 one.plays in
    let (rest, all) = front policy m c.args.records c.play_out.new.rack c.play_out.new.sheet c.next.new.self.a.start (done ++ line) c.next.new.self.b after in
    let e = err_from_is_err_and c.from_residual.result c.from_residual.ensures.1 in
    subst (λ r. Writes (Lines policy (new_book m) blank_sheet 0 c.args.records) (g.W.Write.contents c.args.out.now) (g.W.Write.contents c.play_out.new.out) r) (sym e.1)
    ((done ++ line) ++ rest, all, front_written (g.W.Write.contents c.args.out.now) (g.W.Write.contents c.loop-index.out) (g.W.Write.contents c.play_out.new.out) done line rest w one.puts)

pub returns : goal.returns
returns g c = λ m judge policy made allowed few.
    let (done, k, w) = c.loop-index.invariant.written m judge policy made allowed in
    let none : c.loop-index.index-iterator.b ≡ [] = elim c.in-None.ensures.steps [
      | inl far ↦ absurd (omega (arith, far.1.0, few, c.loop-index.invariant.counts))
      | inr end ↦ end.1.0
    ] in (
      done,
      ended policy m c.args.records c.loop-index.rack c.loop-index.sheet c.loop-index.index-iterator.a.start done
          (subst (λ l. Midway policy m c.args.records c.loop-index.rack c.loop-index.sheet c.loop-index.index-iterator.a.start l done) none k),
      w,
    )
