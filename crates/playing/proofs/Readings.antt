-- Of every reading: a rack can be made of a file's number of processors, and the place of a fault can stand in a line.
use Rattle.std.proofs.Common.{◌≡◌, ℕ, zero, suc, ◌+◌, ◌^◌, ◌<◌, ◌≤◌, Bool, true, false, not, cond, eqb, ltb, leb, List, length, get_or, take, drop, is_some, Some, None, Ok, Err, Option, Result, IfErr, IfSome, refl, sym, ap, ◌∙◌, arith}
use Rattle.std.proofs.lemmas.Bool.{and_parts, leb-true, ltb-false, not-false}
use Rattle.std.proofs.lemmas.List.{length-take-le}
use Rattle.std.proofs.lemmas.List.Quantifiers.{position-Some}
use Rattle.std.proofs.lemmas.Result.{IfErr-at_err}
use Rattle.preferences.specs.declared.policy.Policy.{Policy}
use Rattle.preferences.specs.Policies.{policy_named}
use Rattle.rackfile.specs.declared.fault.BytesFault.TheVariants.{TooLong, Trailing}
use Rattle.rackfile.specs.declared.fault.RecordFault.{RecordFault}
use Rattle.rackfile.specs.declared.fault.RecordFault.TheVariants.{Bytes, Tag, Label}
use Rattle.rackfile.specs.declared.fault.FileFault.{FileFault}
use Rattle.rackfile.specs.declared.fault.FileFault.TheVariants as fault
use Rattle.rackfile.specs.Faults.{number_of, place_of}
use Rattle.rackfile.specs.Reading.{place_in, field, take_byte, take_word, too_long}
use Rattle.rackfile.specs.Records.{Seen, printable, first_bad, length_allowed, then, next, judged, read_text, read_label, read_admission, read_withdrawal, read_record}
use Rattle.rackfile.specs.Files.{File, is_mark, is_version, processors_allowed, cut, header_fault, count_in, read_records, with_records, with_header, judging, reading}
use Rattle.rackfile.proofs.Undoing.{ok_same, cond-right, cond-wrong, cond-none}
use Rattle.lines.specs.Texts as texts
use Rattle.rack.specs.Table.{rack_size}
use Rattle.playing.specs.Outcomes.{unreadable}
use Rattle.playing.proofs.Carrying.{small_in_line}

-- ==== The processors of a file

header_allows : (whole : ℕ) (s : List ℕ) → header_fault whole s ≡ None → processors_allowed (get_or s 6 0) ≡ true
header_allows whole s e =
    let c1 = cond-none (ltb (length s) 3) _ _ e in
    let c2 = cond-none (not (is_mark (get_or s 0 0) (get_or s 1 0) (get_or s 2 0))) _ _ c1.1 in
    let c3 = cond-none (ltb (length s) 5) _ _ c2.1 in
    let c4 = cond-none (not (is_version (get_or s 3 0) (get_or s 4 0))) _ _ c3.1 in
    let c5 = cond-none (ltb (length s) 6) _ _ c4.1 in
    let c6 = cond-none (not (is_some (policy_named (get_or s 5 0)))) _ _ c5.1 in
    let c7 = cond-none (ltb (length s) 7) _ _ c6.1 in
    let c8 = cond-none (not (processors_allowed (get_or s 6 0))) _ _ c7.1 in
    not-false (processors_allowed (get_or s 6 0)) c8.0

processors_of : (whole : ℕ) (o : Option Policy) (m : ℕ) (r : Result (List Seen × List ℕ) RecordFault) (f : File) → with_records whole o m r ≡ Ok f → m ≡ f.processors
processors_of whole None m r f e = absurd cc
processors_of whole (Some p) m (Err g) f e = absurd cc
processors_of whole (Some p) m (Ok x) f e =
    let d = cond-right (eqb (length x.1) 0) (Ok (record { policy = p; processors = m; records = x.0 })) _ f e in
    ap (λ (z : File). z.processors) (ok_same (record { policy = p; processors = m; records = x.0 }) f d.1)

-- a file's processors are as many as a rack's
pub size_of_file : (input : List ℕ) (f : File) → reading input ≡ Ok f → rack_size f.processors ≡ true
size_of_file input f e = head (header_fault (length input) input) refl (cond-wrong (too_long input) _ (judging input) f e).1
  where
    head : (o : Option FileFault) → header_fault (length input) input ≡ o → with_header input o ≡ Ok f → rack_size f.processors ≡ true
    head (Some g) q h = absurd cc
    head None q h =
        let m = processors_of (length input) (policy_named (get_or input 5 0)) (get_or input 6 0) (read_records (length input) (count_in input) (drop 9 input)) f h in
        ap rack_size (sym m) ∙ header_allows (length input) input q

-- ==== The place of a fault

-- at most 16 bytes, as many as a label has, behind the input's end
abbrev Near : ℕ → FileFault → Type 0
Near whole f = place_of f ≤ whole + 16

abbrev NearErr : {A : Type 0} → ℕ → Result A RecordFault → Type 0
NearErr whole r = IfErr r (λ e. Near whole (fault.Record e))

near_then : {A B : Type 0} (whole : ℕ) (o : Option (A × List ℕ)) (k : A × List ℕ → Result B RecordFault) → ((x : A × List ℕ) → NearErr whole (k x)) → NearErr whole (then Bytes (field whole o) k)
near_then whole None k h = omega arith
near_then whole (Some x) k h = h x

near_next : {A B : Type 0} (whole : ℕ) (r : Result A RecordFault) (k : A → Result B RecordFault) → NearErr whole r → ((x : A) → NearErr whole (k x)) → NearErr whole (next r k)
near_next whole (Err e) k n h = n
near_next whole (Ok x) k n h = h x

near_judged : (whole place : ℕ) (x : List ℕ × List ℕ) (bad : Option ℕ) → IfSome bad (λ i. place + i ≤ whole + 16) → NearErr whole (judged place x bad)
near_judged whole place x None h = tt
near_judged whole place x (Some bad) h = h

bad_within : (l : List ℕ) (o : Option ℕ) → first_bad l ≡ o → IfSome o (λ i. i < length l)
bad_within l None e = tt
bad_within l (Some bad) e = (position-Some (λ b. not (printable b)) l bad 0 e).0

near_text : (whole n : ℕ) (s : List ℕ) → n ≤ 16 → NearErr whole (read_text whole n s)
near_text whole n s h = go (leb n (length s)) refl
  where
    go : (b : Bool) → leb n (length s) ≡ b → NearErr whole (then Bytes (field whole (cond {A = Option (List ℕ × List ℕ)} b (Some (take n s, drop n s)) None)) (λ (x : List ℕ × List ℕ). judged (place_in whole s) x (first_bad x.0)))
    go false q = omega arith
    go true q = near_judged whole (place_in whole s) (take n s, drop n s) (first_bad (take n s)) (within (first_bad (take n s)) (bad_within (take n s) _ refl) (length-take-le n s (leb-true n (length s) q)))
      where
        within : (o : Option ℕ) → IfSome o (λ i. i < length (take n s)) → length (take n s) ≡ n → IfSome o (λ i. place_in whole s + i ≤ whole + 16)
        within None w long = tt
        within (Some i) w long = omega (arith, w, long)

near_label : (whole : ℕ) (s : List ℕ) → NearErr whole (read_label whole s)
near_label whole s = near_then whole (take_byte s) _ (λ x. go x (length_allowed x.0) refl)
  where
    go : (x : ℕ × List ℕ) (b : Bool) → length_allowed x.0 ≡ b → NearErr whole (cond b (read_text whole x.0 x.1) (Err (Label (place_in whole s))))
    go x true q = near_text whole x.0 x.1 (leb-true x.0 16 (and_parts (leb 1 x.0) (leb x.0 16) q).1)
    go x false q = omega arith

near_record : (whole : ℕ) (s : List ℕ) → NearErr whole (read_record whole s)
near_record whole s = near_then whole (take_byte s) _ (λ x. go x (eqb x.0 65) (eqb x.0 87))
  where
    go : (x : ℕ × List ℕ) (a w : Bool) → NearErr whole (cond a (read_admission whole x.1) (cond w (read_withdrawal whole x.1) (Err (Tag (place_in whole s)))))
    go x true w = near_then whole (take_word x.1) _ (λ n. near_then whole (take_word n.1) _ (λ c. near_then whole (take_word c.1) _ (λ t. near_next whole (read_label whole t.1) _ (near_label whole t.1) (λ l. tt))))
    go x false true = near_then whole (take_word x.1) _ (λ n. tt)
    go x false false = omega arith

near_records : (whole n : ℕ) (s : List ℕ) → NearErr whole (read_records whole n s)
near_records whole zero s = tt
near_records whole (suc n) s = near_next whole (read_record whole s) _ (near_record whole s) (λ x. near_next whole (read_records whole n x.1) _ (near_records whole n x.1) (λ y. tt))

near_end : (whole : ℕ) (o : Option Policy) (m : ℕ) (r : Result (List Seen × List ℕ) RecordFault) → NearErr whole r → IfErr (with_records whole o m r) (Near whole)
near_end whole None m r h = omega arith
near_end whole (Some p) m (Err e) h = h
near_end whole (Some p) m (Ok x) h = go (eqb (length x.1) 0)
  where
    go : (b : Bool) → IfErr {T = File} (cond b (Ok (record { policy = p; processors = m; records = x.0 })) (Err (fault.Record (Bytes (Trailing (place_in whole x.1)))))) (Near whole)
    go true = tt
    go false = omega arith

near_cond : (whole : ℕ) (b : Bool) (f : FileFault) (o : Option FileFault) → Near whole f → IfSome o (Near whole) → IfSome (cond b (Some f) o) (Near whole)
near_cond whole true f o n h = n
near_cond whole false f o n h = h

near_header : (whole : ℕ) (s : List ℕ) → IfSome (header_fault whole s) (Near whole)
near_header whole s =
    let short : Near whole (cut whole) = omega arith in
    near_cond whole (ltb (length s) 3) (cut whole) _ short (near_cond whole (not (is_mark (get_or s 0 0) (get_or s 1 0) (get_or s 2 0))) fault.Mark _ (omega arith)
    (near_cond whole (ltb (length s) 5) (cut whole) _ short (near_cond whole (not (is_version (get_or s 3 0) (get_or s 4 0))) fault.Version _ (omega arith)
    (near_cond whole (ltb (length s) 6) (cut whole) _ short (near_cond whole (not (is_some (policy_named (get_or s 5 0)))) fault.Policy _ (omega arith)
    (near_cond whole (ltb (length s) 7) (cut whole) _ short (near_cond whole (not (processors_allowed (get_or s 6 0))) fault.Processors _ (omega arith)
    (near_cond whole (ltb (length s) 9) (cut whole) None short tt))))))))

near_judging : (input : List ℕ) → IfErr (judging input) (Near (length input))
near_judging input = go (header_fault (length input) input) (near_header (length input) input)
  where
    go : (o : Option FileFault) → IfSome o (Near (length input)) → IfErr (with_header input o) (Near (length input))
    go (Some f) h = h
    go None h = near_end (length input) (policy_named (get_or input 5 0)) (get_or input 6 0) _ (near_records (length input) (count_in input) (drop 9 input))

place_small : (input : List ℕ) (f : FileFault) → reading input ≡ Err f → place_of f < 2 ^ 32
place_small input f e = IfErr-at_err (λ (g : FileFault). place_of g < 2 ^ 32) e (go (too_long input) refl)
  where
    small : (r : Result File FileFault) → IfErr r (Near (length input)) → length input ≤ 65536 → IfErr r (λ g. place_of g < 2 ^ 32)
    small (Ok g) h short = tt
    small (Err g) h short = omega (arith, h, short)

    go : (b : Bool) → too_long input ≡ b → IfErr (cond b (Err (fault.Record (Bytes TooLong))) (judging input)) (λ g. place_of g < 2 ^ 32)
    go true q = omega arith
    go false q = small (judging input) (near_judging input) (ltb-false 65536 (length input) q)

-- the line that is written for a fault says its place as it is
pub fault_told : (input : List ℕ) (f : FileFault) → reading input ≡ Err f → unreadable f ≡ texts.unreadable_line (number_of f) (place_of f)
fault_told input f e = ap (texts.unreadable_line (number_of f)) (small_in_line (place_of f) (place_small input f e))
