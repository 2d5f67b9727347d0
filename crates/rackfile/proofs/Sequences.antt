-- What is read so far, and what the rest of the file gives.
use Rattle.std.proofs.Common.{◌≡◌, ℕ, zero, suc, ◌-◌, ◌≤◌, length, List, [], ◌∷◌, ◌++◌, Ok, Err, Result, sym, refl, ap, ◌∙◌, subst, arith}
use Rattle.std.proofs.lemmas.List.{append_assoc, append-nil}
use Rattle.rackfile.specs.declared.fault.RecordFault.{RecordFault}
use Rattle.rackfile.specs.declared.record.Record.{Record}
use Rattle.rackfile.specs.declared.bytes.Reader.{Reader}
use Rattle.rackfile.specs.Reading.{Reads}
use Rattle.rackfile.specs.Records.{Seen, seen_as, next, read_record}
use Rattle.rackfile.specs.Files.{read_records}
use Rattle.rackfile.specs.Taking.{records_in, records_at, Readable}
use Rattle.rackfile.proofs.Undoing.{ok_same, next_ok}

abbrev pub Run : Type 0
Run = Result (List Seen × List ℕ) RecordFault

abbrev pub prepend : List Seen → Run → Run
prepend xs (Ok p) = Ok (xs ++ p.0, p.1)
prepend xs (Err e) = Err e

push : (xs : List Seen) (v : Seen) (r : Run) → prepend xs (next r (λ y. Ok (v ∷ y.0, y.1))) ≡ prepend (xs ++ v ∷ []) r
push xs v (Ok p) = ap (λ (l : List Seen). Ok (l, p.1)) (sym (append_assoc xs (v ∷ []) p.0))
push xs v (Err e) = refl

pub run_more : (whole n : ℕ) (s rest : List ℕ) (v : Seen) (xs : List Seen) → read_record whole s ≡ Ok (v, rest) → prepend xs (read_records whole (suc n) s) ≡ prepend (xs ++ v ∷ []) (read_records whole n rest)
run_more whole n s rest v xs e = ap (λ r. prepend xs (next r (λ x. next (read_records whole n x.1) (λ y. Ok (x.0 ∷ y.0, y.1))))) e ∙ push xs v (read_records whole n rest)

pub run_fails : (whole n : ℕ) (s : List ℕ) (f : RecordFault) (xs : List Seen) → read_record whole s ≡ Err f → prepend xs (read_records whole (suc n) s) ≡ Err f
run_fails whole n s f xs e = ap (λ r. prepend xs (next r (λ x. next (read_records whole n x.1) (λ y. Ok (x.0 ∷ y.0, y.1))))) e

pub run_ends : (whole : ℕ) (s : List ℕ) (xs : List Seen) → prepend xs (read_records whole 0 s) ≡ Ok (xs, s)
run_ends whole s xs = ap (λ (l : List Seen). Ok (l, s)) (append-nil xs)

-- as many records are read as are asked for
pub run_long : (whole n : ℕ) (s : List ℕ) (vs : List Seen) (rest : List ℕ) → read_records whole n s ≡ Ok (vs, rest) → length vs ≡ n
run_long whole zero s vs rest e = ap length (sym (ap (λ z. z.0) (ok_same ([], s) (vs, rest) e)))
run_long whole (suc n) s vs rest e =
    let one = next_ok (read_record whole s) _ (vs, rest) e in
    let more = next_ok (read_records whole n one.value.1) _ (vs, rest) one.on in
    sym (ap (λ (z : List Seen × List ℕ). length z.0) (ok_same (one.value.0 ∷ more.value.0, more.value.1) (vs, rest) more.on)) ∙ ap suc (run_long whole n one.value.1 more.value.0 more.value.1 more.read)

pub readable_long : (whole n : ℕ) (s : List ℕ) → Readable whole n s → length (records_at whole n s) ≡ n
readable_long whole n s r = ap (λ z. length (records_in z)) r.read ∙ run_long whole n s r.records r.rest r.read

-- behind the first of some readable records the others are readable
pub readable_next : (whole n : ℕ) (s rest : List ℕ) (v : Seen) → Readable whole (suc n) s → read_record whole s ≡ Ok (v, rest) → Readable whole n rest
readable_next whole n s rest v r e =
    let one = next_ok (read_record whole s) _ (r.records, r.rest) r.read in
    let more = next_ok (read_records whole n one.value.1) _ (r.records, r.rest) one.on in
    let same : one.value.1 ≡ rest = ap (λ (z : Seen × List ℕ). z.1) (ok_same one.value (v, rest) (sym one.read ∙ e)) in
    record { records = more.value.0; rest = more.value.1; read = ap (λ l. read_records whole n l) (sym same) ∙ more.read }

-- so reading the first of them, as the reader does, leaves the others readable
pub readable_behind : (n k : ℕ) (old new : Reader) (r : Result Record RecordFault) → 1 ≤ n → k ≡ n - 1 → Readable old.whole n old.left.now → Reads seen_as old new r (read_record old.whole old.left.now) → Readable new.whole k new.left.now
readable_behind n k old new (Ok one) some less all reads =
    let more : n ≡ suc k = omega (arith, some, less) in
    subst (λ w. Readable w k new.left.now) (sym reads.1) (readable_next old.whole k old.left.now new.left.now (seen_as one) (subst (λ j. Readable old.whole j old.left.now) more all) reads.0)
readable_behind n k old new (Err f) some less all reads =
    let more : n ≡ suc k = omega (arith, some, less) in
    let went = subst (λ j. Readable old.whole j old.left.now) more all in
    let one = next_ok (read_record old.whole old.left.now) _ (went.records, went.rest) went.read in
    let clash : Err f ≡ Ok one.value = sym reads ∙ one.read in
    absurd cc
