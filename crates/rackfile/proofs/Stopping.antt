-- Where a record can't be read, whole ones stand before it.
use Rattle.std.proofs.Common.{◌≡◌, ℕ, zero, suc, ◌-◌, ◌<◌, ◌≤◌, true, List, [], ◌∷◌, ◌++◌, length, get_or, take, drop, Some, None, Ok, Err, Result, sym, refl, ap, ◌∙◌, arith}
use Rattle.std.proofs.lemmas.List.{append_assoc, length-append, length-drop, take_at}
use Rattle.std.proofs.lemmas.Bool.{and_from}
use Rattle.preferences.specs.declared.policy.Policy.{Policy}
use Rattle.preferences.specs.Policies.{policy_named}
use Rattle.rackfile.specs.declared.fault.RecordFault.{RecordFault}
use Rattle.rackfile.specs.Records.{Seen, next, read_record}
use Rattle.rackfile.specs.Files.{header_fault, count_in, read_records}
use Rattle.rackfile.specs.Format.{header_bytes, record_bytes, records_bytes, record_allowed, all_allowed}
use Rattle.rackfile.specs.Exact.{AreBytes}
use Rattle.rackfile.specs.FaultLaws.{BeginsRecord}
use Rattle.rackfile.proofs.Sequences.{Run}
use Rattle.rackfile.proofs.RecordBytes.{record_back}
use Rattle.rackfile.proofs.Headers.{header_back}
use Rattle.rackfile.proofs.Placing.{failing_in, failing}

-- reading that stops at a record: the whole ones before it, and the rest from it on
pub record Stopped (whole n : ℕ) (s : List ℕ) (f : RecordFault) : Type 0 where
  pub records : List Seen
  pub rest : List ℕ
  pub its_rest : rest ≡ failing whole n s
  pub bytes : s ≡ records_bytes records ++ rest
  pub allowed : all_allowed records ≡ true
  pub fewer : length records < n
  pub fails : read_record whole rest ≡ Err f

stopped : (whole n : ℕ) (s : List ℕ) (f : RecordFault) → AreBytes s → length s ≤ whole → read_records whole n s ≡ Err f → Stopped whole n s f
stopped whole zero s f b w e = absurd cc
stopped whole (suc n) s f b w e = go (λ t. stopped whole n t f) (read_record whole s) refl e
  where
    inner : (x : Seen × List ℕ) (r : Run) → ◌≡◌ {A = Run} (next r (λ y. Ok (x.0 ∷ y.0, y.1))) (Err f) → r ≡ Err f
    inner x (Ok y) k = absurd cc
    inner x (Err g) k = cc

    one_more : (v : Seen) (t : List ℕ) → s ≡ record_bytes v ++ t → record_allowed v ≡ true → failing whole (suc n) s ≡ failing whole n t → Stopped whole n t f → Stopped whole (suc n) s f
    one_more v t is allowed same more = record {
      records = v ∷ more.records;
      rest = more.rest;
      its_rest = more.its_rest ∙ sym same;
      bytes = is ∙ ap (λ y. record_bytes v ++ y) more.bytes ∙ sym (append_assoc (record_bytes v) (records_bytes more.records) more.rest);
      allowed = and_from (record_allowed v) (all_allowed more.records) allowed more.allowed;
      fewer = omega (arith, more.fewer);
      fails = more.fails;
    }

    failed : (r : Result (Seen × List ℕ) RecordFault) → read_record whole s ≡ r → failing whole (suc n) s ≡ failing_in r s (λ t. failing whole n t)
    failed r h = ap (λ r. failing_in r s (λ t. failing whole n t)) h

    go : ((t : List ℕ) → AreBytes t → length t ≤ whole → read_records whole n t ≡ Err f → Stopped whole n t f) → (r : Result (Seen × List ℕ) RecordFault) → read_record whole s ≡ r
        → ◌≡◌ {A = Run} (next r (λ x. next (read_records whole n x.1) (λ y. Ok (x.0 ∷ y.0, y.1)))) (Err f) → Stopped whole (suc n) s f
    go ih (Err g) h k = let same : g ≡ f = cc in record { records = []; rest = s; its_rest = sym (failed (Err g) h); bytes = refl; allowed = refl; fewer = omega arith; fails = h ∙ ap (λ z. Err z) same }
    go ih (Ok x) h k =
        let back = record_back whole (whole - length s) s x.0 x.1 (omega arith) b h in
        one_more x.0 x.1 back.bytes back.allowed (failed (Ok x) h) (ih x.1 back.rest (omega (arith, ap length back.bytes, length-append (record_bytes x.0) x.1)) (inner x (read_records whole n x.1) k))

-- an input with a record that can't be read: what stands before that record, and the rest from it on
pub record Begun (input : List ℕ) (f : RecordFault) : Type 0 where
  pub front : List ℕ
  pub rest : List ℕ
  pub its_rest : rest ≡ failing (length input) (count_in input) (drop 9 input)
  pub bytes : input ≡ front ++ rest
  pub begins : BeginsRecord input (length front)
  pub fails : read_record (length input) rest ≡ Err f

pub record_begins : (input : List ℕ) (p : Policy) (f : RecordFault) → AreBytes input → header_fault (length input) input ≡ None → policy_named (get_or input 5 0) ≡ Some p → read_records (length input) (count_in input) (drop 9 input) ≡ Err f → Begun input f
record_begins input p f b right named h =
    let l = length input in
    let n = count_in input in
    let back = header_back l input p b right named in
    let stop = stopped l n (drop 9 input) f back.rest (omega (arith, length-drop 9 input)) h in
    let top = header_bytes p (get_or input 6 0) n in
    let front = top ++ records_bytes stop.records in
    let whole : input ≡ front ++ stop.rest = back.bytes ∙ ap (λ x. top ++ x) stop.bytes ∙ sym (append_assoc top (records_bytes stop.records) stop.rest) in
    record {
      front = front;
      rest = stop.rest;
      its_rest = stop.its_rest;
      bytes = whole;
      begins = record {
        policy = p;
        processors = get_or input 6 0;
        records = stop.records;
        before = ap (take (length front)) whole ∙ take_at front stop.rest (length front) refl;
        right_processors = back.processors;
        allowed = stop.allowed;
        fewer = stop.fewer;
      };
      fails = stop.fails;
    }
