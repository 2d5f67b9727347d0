-- Bytes are read as a file exactly when they stand for it.
use Rattle.std.proofs.Common.{◌≡◌, ℕ, zero, suc, ◌+◌, ◌<◌, ◌≤◌, true, eqb, List, [], ◌∷◌, ◌++◌, length, get_or, drop, Some, None, Ok, Err, Option, Result, sym, refl, ap, ◌∙◌, subst, arith}
use Rattle.std.proofs.lemmas.List.{append_assoc, append-nil, length-append, length-drop, nil_from_length}
use Rattle.std.proofs.lemmas.List.Elements.{All-from_get_or}
use Rattle.std.proofs.lemmas.Bool.{and_parts, and_from, cond-false, ltb-false, le-ltb, eqb-true}
use Rattle.preferences.specs.declared.policy.Policy.{Policy}
use Rattle.preferences.specs.Policies.{policy_named}
use Rattle.rackfile.specs.declared.fault.RecordFault.{RecordFault}
use Rattle.rackfile.specs.declared.fault.FileFault.{FileFault}
use Rattle.rackfile.specs.Reading.{too_long}
use Rattle.rackfile.specs.Records.{Seen, admits, withdraws, next, read_record}
use Rattle.rackfile.specs.Files.{File, header_fault, count_in, read_records, with_records, with_header, reading}
use Rattle.rackfile.specs.Format.{header_bytes, record_bytes, records_bytes, record_allowed, all_allowed, all_placed, Stands}
use Rattle.rackfile.specs.Exact.{AreBytes, ReadsWhatStands, OneFile, NotBoth}
use Rattle.rackfile.proofs.Undoing.{ok_same, Went, next_ok, cond-right, cond-wrong}
use Rattle.rackfile.proofs.RecordBytes.{record_back, record_read}
use Rattle.rackfile.proofs.Headers.{header_back, header_read, count_read, named}

pub record RecordsBack (at n : ℕ) (s : List ℕ) (vs : List Seen) (r : List ℕ) : Type 0 where
  pub bytes : s ≡ records_bytes vs ++ r
  pub count : length vs ≡ n
  pub allowed : all_allowed vs ≡ true
  pub placed : all_placed at vs ≡ true

records_back : (whole at n : ℕ) (s : List ℕ) (vs : List Seen) (r : List ℕ) → whole ≡ at + length s → AreBytes s → read_records whole n s ≡ Ok (vs, r) → RecordsBack at n s vs r
records_back whole at zero s vs r here b e =
    let same = ok_same ([], s) (vs, r) e in
    subst (λ x. RecordsBack at 0 s x r) (ap (λ z. z.0) same) (record { bytes = ap (λ z. z.1) same; count = refl; allowed = refl; placed = refl })
records_back whole at (suc n) s vs r here b e = go (next_ok (read_record whole s) _ (vs, r) e) (λ t ws q h k. records_back whole (at + length t) n q ws r h k)
  where
    go : Went {B = List Seen × List ℕ} (read_record whole s) (λ (x : Seen × List ℕ). next (read_records whole n x.1) (λ (y : List Seen × List ℕ). Ok (x.0 ∷ y.0, y.1))) (vs, r)
        → ((t : List ℕ) (ws : List Seen) (q : List ℕ) → whole ≡ at + length t + length q → AreBytes q → read_records whole n q ≡ Ok (ws, r) → RecordsBack (at + length t) n q ws r) → RecordsBack at (suc n) s vs r
    go w ih =
        let v = w.value.0 in
        let t = w.value.1 in
        let one = record_back whole at s v t here b w.read in
        let w2 = next_ok (read_records whole n t) _ (vs, r) w.on in
        let ws = w2.value.0 in
        let same = ok_same (v ∷ ws, w2.value.1) (vs, r) w2.on in
        let ev : v ∷ ws ≡ vs = ap (λ z. z.0) same in
        let er : w2.value.1 ≡ r = ap (λ z. z.1) same in
        let long = ap length one.bytes ∙ length-append (record_bytes v) t in
        let rest = ih (record_bytes v) ws t (omega arith) one.rest (w2.read ∙ ap (λ x. Ok (ws, x)) er) in
        subst (λ x. RecordsBack at (suc n) s x r) ev (record {
          bytes = one.bytes ∙ ap (λ x. record_bytes v ++ x) rest.bytes ∙ sym (append_assoc (record_bytes v) (records_bytes ws) r);
          count = ap suc rest.count;
          allowed = and_from (record_allowed v) (all_allowed ws) one.allowed rest.allowed;
          placed = one.placed ws rest.placed;
        })

-- what was read stands there
pub stands : (input : List ℕ) (f : File) → AreBytes input → reading input ≡ Ok f → Stands input f
stands input f b e =
    let c = cond-wrong (too_long input) _ (with_header input (header_fault (length input) input)) f e in
    head (header_fault (length input) input) refl c.1 (ltb-false 65536 (length input) c.0)
  where
    last : (p : Policy) → policy_named (get_or input 5 0) ≡ Some p → header_fault (length input) input ≡ None → (run : Result (List Seen × List ℕ) RecordFault) → read_records (length input) (count_in input) (drop 9 input) ≡ run → with_records (length input) (Some p) (get_or input 6 0) run ≡ Ok f → length input ≤ 65536 → Stands input f
    last p named_by right (Err g) run h short = absurd cc
    last p named_by right (Ok x) run h short =
        let d = cond-right (eqb (length x.1) 0) (Ok (record { policy = p; processors = get_or input 6 0; records = x.0 })) _ f h in
        let same = ok_same (record { policy = p; processors = get_or input 6 0; records = x.0 }) f d.1 in
        let top = header_back (length input) input p b right named_by in
        let nothing = nil_from_length x.1 (eqb-true (length x.1) 0 d.0) in
        let rs = records_back (length input) 9 (count_in input) (drop 9 input) x.0 x.1 (omega (arith, length-drop 9 input, top.long)) top.rest run in
        subst (Stands input) same (record {
          bytes = top.bytes ∙ ap (λ k. header_bytes p (get_or input 6 0) k ++ drop 9 input) (sym rs.count) ∙ ap (λ y. header_bytes p (get_or input 6 0) (length x.0) ++ y) (rs.bytes ∙ ap (λ y. records_bytes x.0 ++ y) nothing ∙ append-nil (records_bytes x.0));
          short = short;
          processors = top.processors;
          few = omega (arith, rs.count, top.few);
          allowed = rs.allowed;
          places = rs.placed;
        })

    middle : (o : Option Policy) → policy_named (get_or input 5 0) ≡ o → header_fault (length input) input ≡ None → with_records (length input) o (get_or input 6 0) (read_records (length input) (count_in input) (drop 9 input)) ≡ Ok f → length input ≤ 65536 → Stands input f
    middle None q right h short = absurd cc
    middle (Some p) q right h short = last p q right (read_records (length input) (count_in input) (drop 9 input)) refl h short

    head : (o : Option FileFault) → header_fault (length input) input ≡ o → with_header input o ≡ Ok f → length input ≤ 65536 → Stands input f
    head (Some g) q h short = absurd cc
    head None q h short = middle (policy_named (get_or input 5 0)) refl q h short

placed_after : (at : ℕ) (v : Seen) (vs : List Seen) → all_placed at (v ∷ vs) ≡ true → all_placed (at + length (record_bytes v)) vs ≡ true
placed_after at (withdraws n) vs p = p
placed_after at (admits n c t l place) vs p =
    let k : at + 14 + length l ≡ at + length (record_bytes (admits n c t l place)) = omega arith in
    subst (λ x. all_placed x vs ≡ true) k (and_parts (eqb place (at + 14)) (all_placed (at + 14 + length l) vs) p).1

records_read : (whole at : ℕ) (vs : List Seen) (r : List ℕ) → all_allowed vs ≡ true → all_placed at vs ≡ true → whole ≡ at + length (records_bytes vs ++ r) → read_records whole (length vs) (records_bytes vs ++ r) ≡ Ok (vs, r)
records_read whole at [] r a p here = refl
records_read whole at (v ∷ vs) r a p here = go (records_read whole (at + length (record_bytes v)) vs r)
  where
    go : (all_allowed vs ≡ true → all_placed (at + length (record_bytes v)) vs ≡ true → whole ≡ at + length (record_bytes v) + length (records_bytes vs ++ r) → read_records whole (length vs) (records_bytes vs ++ r) ≡ Ok (vs, r)) → read_records whole (suc (length vs)) ((record_bytes v ++ records_bytes vs) ++ r) ≡ Ok (v ∷ vs, r)
    go ih =
        let tail = records_bytes vs ++ r in
        let shape : (record_bytes v ++ records_bytes vs) ++ r ≡ record_bytes v ++ tail = append_assoc (record_bytes v) (records_bytes vs) r in
        let long = ap length shape ∙ length-append (record_bytes v) tail in
        let allow = and_parts (record_allowed v) (all_allowed vs) a in
        let one = record_read whole at v vs tail allow.0 p (omega (arith, here, long, length-append (record_bytes v) tail)) in
        ap (λ x. read_records whole (suc (length vs)) x) shape
        ∙ ap (λ o. next o (λ (x : Seen × List ℕ). next (read_records whole (length vs) x.1) (λ (y : List Seen × List ℕ). Ok (x.0 ∷ y.0, y.1)))) one
        ∙ ap (λ o. next o (λ (y : List Seen × List ℕ). Ok (v ∷ y.0, y.1))) (ih allow.1 (placed_after at v vs p) (omega (arith, here, long)))

-- what stands there is read
pub reads : (input : List ℕ) (f : File) → Stands input f → reading input ≡ Ok f
reads input f s =
    let p = f.policy in
    let m = f.processors in
    let vs = f.records in
    let top = header_bytes p m (length vs) in
    let body = records_bytes vs in
    let e = s.bytes in
    let right = header_read (length input) p m (length vs) body s.processors in
    let long = ap length e ∙ length-append top body in
    let run = records_read (length input) 9 vs [] s.allowed s.places (omega (arith, long, ap length (append-nil body))) in
    cond-false (too_long input) _ (with_header input (header_fault (length input) input)) (le-ltb 65536 (length input) s.short)
    ∙ ap (with_header input) (ap (header_fault (length input)) e ∙ right)
    ∙ ap (λ x. with_records (length input) (policy_named (get_or x 5 0)) (get_or x 6 0) (read_records (length input) (count_in x) (drop 9 x))) e
    ∙ ap (λ o. with_records (length input) o m (read_records (length input) (count_in (top ++ body)) body)) (named p)
    ∙ ap (λ k. with_records (length input) (Some p) m (read_records (length input) k body)) (count_read p m (length vs) body)
    ∙ ap (λ x. with_records (length input) (Some p) m (read_records (length input) (length vs) x)) (sym (append-nil body))
    ∙ ap (with_records (length input) (Some p) m) run

pub reads_what_stands : ReadsWhatStands
reads_what_stands input f b = (reads input f, stands input f b)

pub one_file : OneFile
one_file input f g b s t = ok_same f g (sym (reads input f s) ∙ reads input g t)

pub not_both : NotBoth
not_both input f e b s h = let q = sym (reads input f s) ∙ h in cc

pub bytes_from : (s : List ℕ) → ((i : ℕ) → get_or s i 0 < 256) → AreBytes s
bytes_from s h = All-from_get_or (λ z. z < 256) s 0 (λ i lt. h i)
