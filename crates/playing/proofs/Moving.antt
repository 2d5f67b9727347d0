-- Bytes that come in and go out in several steps.
use Rattle.std.proofs.Common.{inl, inr, ◌≡◌, ◌≢◌, ℕ, ◌+◌, ◌-◌, ◌<◌, ◌≤◌, List, [], ◌++◌, Some, None, Ok, Err, Result, Vec, MatchResult, IsErrAnd, Fits, w8, length, get_or, take, drop, sym, ap, ◌∙◌, subst, le_refl, arith, add-zero, append-nil, length-append, length-take, length-take-le, length-drop, take_at, take_all}
use Rattle.std.proofs.lemmas.List.{take-append-le}
use Rattle.std.proofs.lemmas.List.Elements.{All-append, All-take, All-from_get_or}
use Rattle.std.proofs.lemmas.Slice.{take-put_mid_below}
use Rattle.std.proofs.Math.Nat.{eq-or-lt_of_le}
use Rattle.std.proofs.Math.Seq.{take-append-add, take-add, take-take}
use Rattle.std.proofs.KnownBytes.{Consumes-nil, Consumes-trans, Consumes-kept, Appends-trans, Appends-kept}
use Rattle.std.specs.Io.KnownBytes.{Keeps, Appends, Consumes, ReadConsumes, WriteAppends}
use Rattle.std.specs.declared.io.Error.{Error}
use Rattle.rackfile.specs.Exact.{AreBytes}
use Rattle.playing.specs.declared.halt.Halt.{Halt}
use Rattle.playing.specs.declared.halt.Halt.TheVariants.{Reading}
use Rattle.playing.specs.Streams.{Known, TakenAtMost, CameFirst, Taken, TakesUp, ReadsInput, PutInPart}
use borrow.Rule.Slice.PartMut.{put_mid, post_of}

-- what the type of a buffer says of its bytes
pub are_bytes : (xs : List ℕ) → ((i : ℕ) → Fits w8 (get_or xs i 0)) → AreBytes xs
are_bytes xs fits = All-from_get_or (λ y. y < 256) xs 0 (λ i h. (fits i).fits)

-- a buffer that is full
pub all_came : (a b : Known) (xs : List ℕ) (n : ℕ) → n ≡ length xs → Consumes a b (take n xs) → AreBytes xs → CameFirst a b xs n
all_came a b xs n full came bytes = record {
  within = omega arith;
  consumed = came;
  all = λ less. absurd (omega arith);
  bytes = All-take (λ y. y < 256) n xs bytes;
}

-- a reader at a, then b, then c; the first bytes of the buffer xs, so many as `at`, came between a and b; ys is what the k bytes behind them are after one more read
module _ (a b c : Known) (at k : ℕ) (xs ys : List ℕ) where
  took_more : (n : ℕ) → at ≤ length xs → n ≤ length ys → take at xs ++ take n ys ≡ take (at + n) (put_mid at k xs ys)
  took_more n within fits =
      let front = take at xs in
      let rest = post_of at k xs in
      sym (ap (λ m. take (m + n) (front ++ (ys ++ rest))) (sym (length-take-le at xs within)) ∙ take-append-add front (ys ++ rest) n ∙ ap (λ l. front ++ l) (take-append-le n ys rest fits))

  -- n more bytes came
  pub filled_more : (n : ℕ) → at ≤ length xs → n ≤ length ys → Consumes a b (take at xs) → Consumes b c (take n ys) → Consumes a c (take (at + n) (put_mid at k xs ys))
  filled_more n within fits first more = subst (Consumes a c) (took_more n within fits) (Consumes-trans a b c (take at xs) (take n ys) first more)

  -- the read failed, and the bytes before it are as they were
  pub filled_kept : at ≤ length xs → Consumes a b (take at xs) → Keeps b c → Consumes a c (take at (put_mid at k xs ys))
  filled_kept within first kept = subst (Consumes a c) (sym (take-put_mid_below at k xs ys at (le_refl at) within)) (Consumes-kept a b c (take at xs) first kept)

  -- the read failed, and the reading ends there
  pub taken_in_part : at ≤ length xs → length ys ≡ length (take k (drop at xs)) → Consumes a b (take at xs) → Keeps b c → TakenAtMost (length (put_mid at k xs ys)) a c
  taken_in_part within long first kept = record {
    taken = take at xs;
    few = omega (arith, length-take-le at xs within, length-append (take at xs) (ys ++ post_of at k xs), length-append ys (post_of at k xs), length-take k (drop at xs), length-drop at xs);
    consumed = Consumes-kept a b c (take at xs) first kept;
  }

  -- the read gave none, though there was room: nothing is left
  pub none_came : {E : Type 0} (n : ℕ) (read : Result ℕ E) → at ≤ length xs → at ≢ length xs → length ys ≡ length (take k (drop at xs)) → k ≡ length xs - at → read ≡ Ok n → n ≡ 0 → Consumes a b (take at xs)
      → ReadConsumes b c read ys → AreBytes (put_mid at k xs ys) → CameFirst a c (put_mid at k xs ys) at
  none_came {E = E} n read within room long rest is none first last bytes =
      let came : ReadConsumes {E = E} b c (Ok n) ys = subst (λ r. ReadConsumes {E = E} b c r ys) is last in
      let nothing : Consumes b c [] = subst (λ m. Consumes b c (take m ys)) none came.0 in
      record {
        within = omega (arith, within, length-append (take at xs) (ys ++ post_of at k xs), length-take-le at xs within);
        consumed = subst (λ m. Consumes a c (take m (put_mid at k xs ys))) (add-zero at) (filled_more 0 within (omega arith) first nothing);
        all = λ less. came.1 none (omega (arith, length-take k (drop at xs), length-drop at xs));
        bytes = All-take (λ y. y < 256) at (put_mid at k xs ys) bytes;
      }

pub ruleset readings = (are_bytes, all_came, filled_more, filled_kept, taken_in_part, none_came, Consumes-nil)

-- a reader at a, then b, then c; the bytes `before` came between a and b, and then so many of the block; `after` is all of them
module _ (most : ℕ) (a b c : Known) (before block after : List ℕ) (n : ℕ) where
  pub block_consumed : Consumes a b before → CameFirst b c block n → after ≡ before ++ take n block → Consumes a c after
  block_consumed first more is = subst (Consumes a c) (sym is) (Consumes-trans a b c before (take n block) first more.consumed)

  pub block_bytes : AreBytes before → CameFirst b c block n → after ≡ before ++ take n block → AreBytes after
  block_bytes first more is = subst AreBytes (sym is) (All-append (λ y. y < 256) before (take n block) first more.bytes)

  -- the block is not full: that was all
  pub last_block : length after ≤ most → n < length block → Consumes a b before → AreBytes before → CameFirst b c block n → after ≡ before ++ take n block → Taken most a c after
  last_block within short first bytes more is = record {
    consumed = block_consumed first more is;
    within = within;
    all = λ less. more.all short;
    bytes = block_bytes bytes more is;
  }

-- so many bytes came, and then the reading of a block failed
pub block_failed : (most : ℕ) (a b c : Known) (before block : List ℕ) → length before + length block ≤ most → Consumes a b before → TakenAtMost (length block) b c → TakenAtMost most a c
block_failed most a b c before block within first more = record {
  taken = before ++ more.taken;
  few = omega (arith, more.few, length-append before more.taken);
  consumed = Consumes-trans a b c before more.taken first more.consumed;
}

-- as much came as was asked for
pub filled_up : (most : ℕ) (a b : Known) (input : List ℕ) → length input ≡ most → Consumes a b input → AreBytes input → Taken most a b input
filled_up most a b input full came bytes = record { consumed = came; within = omega arith; all = λ less. absurd (omega arith); bytes = bytes }

pub ruleset blocks = (block_consumed, block_bytes, last_block, filled_up, Consumes-nil)

-- what becomes of a failed read is the failed reading of the input
pub input_read : {A : Type 0} (most : ℕ) (a b : Known) (r : Result (Vec ℕ A) Error) (q : Result (Vec ℕ A) Halt) → most ≡ 65537 → TakesUp most a b r
    → MatchResult r (λ x. q ≡ Ok x) (λ e. IsErrAnd q (λ h. h ≡ Reading e)) → ReadsInput a b q
input_read most a b (Ok input) q is took same = subst (ReadsInput a b) (sym same) (subst (λ n. Taken n a b input.items) is took)
input_read most a b (Err e) (Ok input) is took same = absurd same
input_read {A = A} most a b (Err e) (Err h) is took same = subst (λ g. ReadsInput {A = A} a b (Err g)) (sym same) (subst (λ n. TakenAtMost n a b) is took)

-- what was read of known bytes is the front of them
pub taken_front : (most : ℕ) (xs : List ℕ) (known : Known) (input : List ℕ) → Taken most (Some xs) known input → input ≡ take most xs
taken_front most xs None input h = absurd h.consumed
taken_front most xs (Some ys) input h = elim (eq-or-lt_of_le h.within) [
  | inl full ↦ sym (ap (take most) h.consumed ∙ take_at input ys most full)
  | inr less ↦
      let whole : input ≡ xs = sym (h.consumed ∙ ap (λ l. input ++ l) (h.all less) ∙ append-nil input) in
      whole ∙ sym (take_all most xs (omega (arith, ap length whole)))
]

-- n more bytes were written, behind the first ones of the whole
pub written_more : (a b c : Known) (xs : List ℕ) (at k n : ℕ) → n ≤ k → Appends a b (take at xs) → Appends b c (take n (take k (drop at xs))) → Appends a c (take (at + n) xs)
written_more a b c xs at k n fits first more =
    let joined = ap (λ l. take at xs ++ l) (take-take n k (drop at xs) fits) ∙ sym (take-add at n xs) in
    subst (Appends a c) joined (Appends-trans a b c _ _ first more)

-- so many bytes were written, and then no more
pub written_in_part : (a b c : Known) (xs : List ℕ) (n : ℕ) → Appends a b (take n xs) → Keeps b c → PutInPart a c xs
written_in_part a b c xs n first kept = record { count = n; appended = Appends-kept a b c (take n xs) first kept }

-- so many bytes were written, and then none of a part
pub none_written : {E : Type 0} (a b c : Known) (xs part : List ℕ) (at n : ℕ) (wrote : Result ℕ E) → wrote ≡ Ok n → n ≡ 0 → Appends a b (take at xs) → WriteAppends b c wrote part → PutInPart a c xs
none_written a b c xs part at n wrote is none first last =
    let more : Appends b c (take n part) = subst (λ r. WriteAppends b c r part) is last in
    let nothing : Appends b c [] = subst (λ m. Appends b c (take m part)) none more in
    record { count = at; appended = subst (Appends a c) (append-nil (take at xs)) (Appends-trans a b c (take at xs) [] first nothing) }

pub ruleset writings = (written_more, written_in_part, none_written, Appends-kept)
