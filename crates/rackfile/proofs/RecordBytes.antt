-- A record is read from the front exactly where its bytes stand there.
use Rattle.std.proofs.Common.{◌≡◌, ℕ, suc, ◌+◌, ◌-◌, ◌*◌, ◌/◌, ◌%◌, ◌^◌, ◌<◌, Bool, true, false, not, ◌&&◌, cond, eqb, ltb, leb, List, [], ◌∷◌, ◌++◌, length, take, drop, Some, None, Ok, Err, Option, sym, refl, ap, ◌∙◌, subst, inl, inr, arith}
use Rattle.std.proofs.lemmas.List.{length-append, take_at, drop_at}
use Rattle.std.proofs.lemmas.Iterator.Adapters.{position_from-zero}
use Rattle.std.specs.List.{list_all, position_from}
use Rattle.std.proofs.lemmas.Bool.{not_from_true, and_parts, and_from, cond-true, cond-false, le-leb, ltb-true, lt-ltb, eqb-true, eq-eqb, cases_Bool}
use Rattle.rackfile.specs.declared.fault.RecordFault.TheVariants.{Bytes, Tag, Label}
use Rattle.rackfile.specs.Reading.{place_in, field, take_byte, take_word, take_part}
use Rattle.rackfile.specs.Records.{Seen, admits, withdraws, printable, first_bad, length_allowed, then, next, judged, read_text, read_label, read_admission, read_withdrawal, read_record}
use Rattle.rackfile.specs.Format.{word, record_bytes, record_allowed, all_placed}
use Rattle.rackfile.specs.Exact.{AreBytes}
use Rattle.rackfile.proofs.Undoing.{ok_same, then_ok, next_ok, field_ok, cond-right, byte_back, word_back, part_back}

-- what was read of a label stood there
pub record LabelBack (whole : ℕ) (s l : List ℕ) (place : ℕ) (r : List ℕ) : Type 0 where
  pub bytes : s ≡ (length l ∷ l) ++ r
  pub allowed : length_allowed (length l) ≡ true
  pub clean : list_all printable l ≡ true
  pub its_place : place ≡ whole - (length l + length r)
  pub rest : AreBytes r

-- a label of which no byte is bad is printable, and the other way round
printable_from : (at : ℕ) (l : List ℕ) → position_from (λ b. not (printable b)) at l ≡ None → list_all printable l ≡ true
printable_from at [] e = refl
printable_from at (x ∷ l) e = go (printable x) refl (printable_from (at + 1) l) e
  where
    go : (b : Bool) → printable x ≡ b → (position_from (λ b. not (printable b)) (at + 1) l ≡ None → list_all printable l ≡ true)
        → cond {A = Option ℕ} (not b) (Some at) (position_from (λ b. not (printable b)) (at + 1) l) ≡ None → (printable x && list_all printable l) ≡ true
    go true is rest e = and_from (printable x) (list_all printable l) is (rest e)
    go false is rest e = absurd cc

clean_from : (at : ℕ) (l : List ℕ) → list_all printable l ≡ true → position_from (λ b. not (printable b)) at l ≡ None
clean_from at [] h = refl
clean_from at (x ∷ l) h =
    let p = and_parts (printable x) (list_all printable l) h in
    cond-false (not (printable x)) (Some at) (position_from (λ b. not (printable b)) (at + 1) l) (not_from_true (printable x) p.0) ∙ clean_from (at + 1) l p.1

printable_all : (l : List ℕ) → first_bad l ≡ None → list_all printable l ≡ true
printable_all l e = printable_from 0 l (sym (position_from-zero (λ b. not (printable b)) l) ∙ e)

none_bad : (l : List ℕ) → list_all printable l ≡ true → first_bad l ≡ None
none_bad l h = position_from-zero (λ b. not (printable b)) l ∙ clean_from 0 l h

judged_ok : (place : ℕ) (x : List ℕ × List ℕ) (bad : Option ℕ) (y : (List ℕ × ℕ) × List ℕ) → judged place x bad ≡ Ok y → (bad ≡ None) × (((x.0, place), x.1) ≡ y)
judged_ok place x None y e = (refl, ok_same ((x.0, place), x.1) y e)
judged_ok place x (Some bad) y e = absurd cc

label_back : (whole : ℕ) (s l : List ℕ) (place : ℕ) (r : List ℕ) → AreBytes s → read_label whole s ≡ Ok ((l, place), r) → LabelBack whole s l place r
label_back whole s l place r b e =
    let w = then_ok Bytes (field whole (take_byte s)) _ ((l, place), r) e in
    let n = w.value.0 in
    let t = w.value.1 in
    let front = byte_back s n t b (field_ok whole (take_byte s) w.value w.read) in
    let c = cond-right (length_allowed n) (read_text whole n t) (Label (place_in whole s)) ((l, place), r) w.on in
    let v = then_ok Bytes (field whole (take_part n t)) _ ((l, place), r) c.1 in
    let q = part_back n t v.value.0 v.value.1 front.1 (field_ok whole (take_part n t) v.value v.read) in
    let d = judged_ok (place_in whole t) v.value (first_bad v.value.0) ((l, place), r) v.on in
    let el : v.value.0 ≡ l = ap (λ z. z.0.0) d.1 in
    let ep : place_in whole t ≡ place = ap (λ z. z.0.1) d.1 in
    let er : v.value.1 ≡ r = ap (λ z. z.1) d.1 in
    let long : length l ≡ n = sym (ap length el) ∙ q.long in
    let tail : t ≡ l ++ r = q.bytes ∙ ap (λ x. x ++ v.value.1) el ∙ ap (λ x. l ++ x) er in
    record {
      bytes = front.0 ∙ ap (λ k. k ∷ t) (sym long) ∙ ap (λ x. length l ∷ x) tail;
      allowed = ap length_allowed long ∙ c.0;
      clean = subst (λ x. list_all printable x ≡ true) el (printable_all v.value.0 d.0);
      its_place = sym ep ∙ ap (λ k. whole - k) (ap length tail ∙ length-append l r);
      rest = subst AreBytes er q.rest;
    }

-- what was read of a record stood there, where `at` bytes had been read before
pub record RecordBack (at : ℕ) (s : List ℕ) (v : Seen) (r : List ℕ) : Type 0 where
  pub bytes : s ≡ record_bytes v ++ r
  pub allowed : record_allowed v ≡ true
  pub placed : (vs : List Seen) → all_placed (at + length (record_bytes v)) vs ≡ true → all_placed at (v ∷ vs) ≡ true
  pub rest : AreBytes r

withdrawal_back : (whole at : ℕ) (s : List ℕ) (v : Seen) (r : List ℕ) → AreBytes s → read_withdrawal whole s ≡ Ok (v, r) → RecordBack at (87 ∷ s) v r
withdrawal_back whole at s v r b e =
    let w = then_ok Bytes (field whole (take_word s)) _ (v, r) e in
    let n = w.value.0 in
    let k = word_back s n w.value.1 b (field_ok whole (take_word s) w.value w.read) in
    let same = ok_same (withdraws n, w.value.1) (v, r) w.on in
    let ev : withdraws n ≡ v = ap (λ z. z.0) same in
    let er : w.value.1 ≡ r = ap (λ z. z.1) same in
    subst (λ x. RecordBack at (87 ∷ s) x r) ev (record {
      bytes = ap (λ x. 87 ∷ x) (k.bytes ∙ ap (λ x. word n ++ x) er);
      allowed = lt-ltb n (2 ^ 32) k.small;
      placed = λ vs h. h;
      rest = subst AreBytes er k.rest;
    })

admission_back : (whole at : ℕ) (s : List ℕ) (v : Seen) (r : List ℕ) → whole ≡ at + suc (length s) → AreBytes s → read_admission whole s ≡ Ok (v, r) → RecordBack at (65 ∷ s) v r
admission_back whole at s v r here b e =
    let w = then_ok Bytes (field whole (take_word s)) _ (v, r) e in
    let n = w.value.0 in
    let kn = word_back s n w.value.1 b (field_ok whole (take_word s) w.value w.read) in
    let w2 = then_ok Bytes (field whole (take_word w.value.1)) _ (v, r) w.on in
    let c = w2.value.0 in
    let kc = word_back w.value.1 c w2.value.1 kn.rest (field_ok whole (take_word w.value.1) w2.value w2.read) in
    let w3 = then_ok Bytes (field whole (take_word w2.value.1)) _ (v, r) w2.on in
    let t = w3.value.0 in
    let kt = word_back w2.value.1 t w3.value.1 kc.rest (field_ok whole (take_word w2.value.1) w3.value w3.read) in
    let w4 = next_ok (read_label whole w3.value.1) _ (v, r) w3.on in
    let l = w4.value.0.0 in
    let p = w4.value.0.1 in
    let kl = label_back whole w3.value.1 l p w4.value.1 kt.rest w4.read in
    let same = ok_same (admits n c t l p, w4.value.1) (v, r) w4.on in
    let ev : admits n c t l p ≡ v = ap (λ z. z.0) same in
    let er : w4.value.1 ≡ r = ap (λ z. z.1) same in
    let whole-bytes : s ≡ word n ++ (word c ++ (word t ++ ((length l ∷ l) ++ r))) =
    kn.bytes ∙ ap (λ x. word n ++ x) (kc.bytes ∙ ap (λ x. word c ++ x) (kt.bytes ∙ ap (λ x. word t ++ x) (kl.bytes ∙ ap (λ x. (length l ∷ l) ++ x) er))) in
    let long = ap length whole-bytes in
    let back : p ≡ at + 14 = omega (arith, kl.its_place, long, length-append l r, ap length er) in
    subst (λ x. RecordBack at (65 ∷ s) x r) ev (record {
      bytes = ap (λ x. 65 ∷ x) whole-bytes;
      allowed = and_from (ltb n (2 ^ 32)) _ (lt-ltb n (2 ^ 32) kn.small) (and_from (ltb c (2 ^ 32)) _ (lt-ltb c (2 ^ 32) kc.small) (and_from (ltb t (2 ^ 32)) _ (lt-ltb t (2 ^ 32) kt.small) (and_from (length_allowed (length l)) _ kl.allowed kl.clean)));
      placed = λ vs h. and_from (eqb p (at + 14)) (all_placed (at + 14 + length l) vs) (eq-eqb p (at + 14) back) (let k : at + length (record_bytes (admits n c t l p)) ≡ at + 14 + length l = omega arith in subst (λ x. all_placed x vs ≡ true) k h);
      rest = subst AreBytes er kl.rest;
    })

pub record_back : (whole at : ℕ) (s : List ℕ) (v : Seen) (r : List ℕ) → whole ≡ at + length s → AreBytes s → read_record whole s ≡ Ok (v, r) → RecordBack at s v r
record_back whole at s v r here b e =
    let w = then_ok Bytes (field whole (take_byte s)) _ (v, r) e in
    let a = w.value.0 in
    let t = w.value.1 in
    let front = byte_back s a t b (field_ok whole (take_byte s) w.value w.read) in
    let long = ap length front.0 in
    subst (λ x. RecordBack at x v r) (sym front.0) (elim (cases_Bool (eqb a 65)) [
      | inl h ↦
          let is = eqb-true a 65 h in
          subst (λ k. RecordBack at (k ∷ t) v r) (sym is) (admission_back whole at t v r (omega arith) front.1 (sym (cond-true (eqb a 65) (read_admission whole t) _ h) ∙ w.on))
      | inr h ↦
          let f = cond-right (eqb a 87) (read_withdrawal whole t) (Tag (place_in whole s)) (v, r) (sym (cond-false (eqb a 65) (read_admission whole t) _ h) ∙ w.on) in
          let is = eqb-true a 87 f.0 in
          subst (λ k. RecordBack at (k ∷ t) v r) (sym is) (withdrawal_back whole at t v r front.1 f.1)
    ])

-- The other way: bytes of a record are read as it.

word_value : (n : ℕ) → n < 2 ^ 32 → n / 16777216 * 16777216 + n / 65536 % 256 * 65536 + n / 256 % 256 * 256 + n % 256 ≡ n
word_value n h = omega arith

word_read : (n : ℕ) (r : List ℕ) → ltb n (2 ^ 32) ≡ true → take_word (word n ++ r) ≡ Some (n, r)
word_read n r h = ap (λ k. Some (k, r)) (word_value n (ltb-true n (2 ^ 32) h))

text_read : (whole : ℕ) (l r : List ℕ) → list_all printable l ≡ true → read_text whole (length l) (l ++ r) ≡ Ok ((l, place_in whole (l ++ r)), r)
text_read whole l r h =
    let enough : leb (length l) (length (l ++ r)) ≡ true = le-leb (length l) (length (l ++ r)) (omega (arith, length-append l r)) in
    let got : take_part (length l) (l ++ r) ≡ Some (l, r) =
    cond-true (leb (length l) (length (l ++ r))) (Some (take (length l) (l ++ r), drop (length l) (l ++ r))) None enough
    ∙ ap (λ x. Some (x, drop (length l) (l ++ r))) (take_at l r (length l) refl) ∙ ap (λ x. Some (l, x)) (drop_at l r (length l) refl) in
    ap (λ o. then Bytes (field whole o) (λ (x : List ℕ × List ℕ). judged (place_in whole (l ++ r)) x (first_bad x.0))) got
    ∙ ap (judged (place_in whole (l ++ r)) (l, r)) (none_bad l h)

label_read : (whole : ℕ) (l r : List ℕ) → length_allowed (length l) ≡ true → list_all printable l ≡ true → read_label whole ((length l ∷ l) ++ r) ≡ Ok ((l, place_in whole (l ++ r)), r)
label_read whole l r a h = cond-true (length_allowed (length l)) (read_text whole (length l) (l ++ r)) (Err (Label (place_in whole ((length l ∷ l) ++ r)))) a ∙ text_read whole l r h

pub record_read : (whole at : ℕ) (v : Seen) (vs : List Seen) (r : List ℕ) → record_allowed v ≡ true → all_placed at (v ∷ vs) ≡ true → whole ≡ at + length (record_bytes v ++ r) → read_record whole (record_bytes v ++ r) ≡ Ok (v, r)
record_read whole at (withdraws n) vs r a p here = ap (λ o. then Bytes (field whole o) (λ (x : ℕ × List ℕ). Ok (withdraws x.0, x.1))) (word_read n r a)
record_read whole at (admits n c t l place) vs r a p here =
    let b = and_parts (ltb n (2 ^ 32)) _ a in
    let d = and_parts (ltb c (2 ^ 32)) _ b.1 in
    let f = and_parts (ltb t (2 ^ 32)) _ d.1 in
    let g = and_parts (length_allowed (length l)) _ f.1 in
    let tail = (length l ∷ l) ++ r in
    let pl = eqb-true place (at + 14) (and_parts (eqb place (at + 14)) (all_placed (at + 14 + length l) vs) p).0 in
    let shape : (word n ++ (word c ++ (word t ++ (length l ∷ l)))) ++ r ≡ word n ++ (word c ++ (word t ++ tail)) = refl in
    let back : place_in whole (l ++ r) ≡ place = omega (arith, here, length-append l r, pl) in
    ap (λ o. then Bytes (field whole o) (λ (x : ℕ × List ℕ). then Bytes (field whole (take_word x.1)) (λ (y : ℕ × List ℕ). then Bytes (field whole (take_word y.1)) (λ (z : ℕ × List ℕ). next (read_label whole z.1) (λ (q : (List ℕ × ℕ) × List ℕ). Ok (admits x.0 y.0 z.0 q.0.0 q.0.1, q.1)))))) (word_read n (word c ++ (word t ++ tail)) b.0)
    ∙ ap (λ o. then Bytes (field whole o) (λ (y : ℕ × List ℕ). then Bytes (field whole (take_word y.1)) (λ (z : ℕ × List ℕ). next (read_label whole z.1) (λ (q : (List ℕ × ℕ) × List ℕ). Ok (admits n y.0 z.0 q.0.0 q.0.1, q.1))))) (word_read c (word t ++ tail) d.0)
    ∙ ap (λ o. then Bytes (field whole o) (λ (z : ℕ × List ℕ). next (read_label whole z.1) (λ (q : (List ℕ × ℕ) × List ℕ). Ok (admits n c z.0 q.0.0 q.0.1, q.1)))) (word_read t tail f.0)
    ∙ ap (λ o. next o (λ (q : (List ℕ × ℕ) × List ℕ). Ok (admits n c t q.0.0 q.0.1, q.1))) (label_read whole l r g.0 g.1)
    ∙ ap (λ k. Ok (admits n c t l k, r)) back
