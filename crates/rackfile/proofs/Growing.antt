-- Reading a record, and reading it again with more bytes behind: what has been read stays, a fault of what was read stays, and a cut is
-- followed by nothing that stands before it.
use Rattle.std.proofs.Common.{◌≡◌, ℕ, zero, suc, ◌+◌, ◌*◌, ◌<◌, ◌≤◌, Bool, true, false, cond, eqb, leb, List, [], ◌∷◌, ◌++◌, length, take, drop, Some, None, Ok, Err, Option, Result, sym, refl, ap, ◌∙◌, subst, arith}
use Rattle.std.proofs.lemmas.List.{length-append, length-drop, take-append-le, drop-append-le}
use Rattle.std.proofs.lemmas.Bool.{and_parts, leb-true, leb-false}
use Rattle.rackfile.specs.declared.fault.BytesFault.TheVariants.{Cut}
use Rattle.rackfile.specs.declared.fault.RecordFault.{RecordFault}
use Rattle.rackfile.specs.declared.fault.RecordFault.TheVariants.{Bytes, Tag, Label}
use Rattle.rackfile.specs.Reading.{place_in, field, take_byte, take_word}
use Rattle.rackfile.specs.Records.{Seen, first_bad, length_allowed, then, next, judged, read_text, read_label, read_admission, read_withdrawal, read_record}
use Rattle.rackfile.specs.Files.{read_records}
use Rattle.rackfile.specs.FaultLaws.{text_length}
use Rattle.rackfile.proofs.Placing.{label_end, Placed, Took, word_took, word_rest, four_more, allowed_text, text_placed, label_placed, withdrawal_placed, behind_work, behind_number, work_placed, number_placed, admission_placed, record_placed, records_placed, failing_in, failing}

-- What may come of bytes whose front, of length `whole`, is cut: the cut field and what follows it reach into the bytes behind, and a fault
-- stands there, or in a label that ends there.
abbrev pub Later : {A : Type 0} → ℕ → List ℕ → List ℕ → Result (A × List ℕ) RecordFault → Type 0
Later whole more label (Ok x) = length x.1 < length more
Later whole more label (Err (Bytes e)) = e ≡ Cut (whole + length more)
Later whole more label (Err (Tag p)) = whole ≤ p
Later whole more label (Err (Label p)) = whole < label_end (whole + length more) label

-- What is read of bytes, and of the same with more behind; `label` and `behind` are where the label of each begins.
abbrev pub Grows : {A : Type 0} → ℕ → List ℕ → List ℕ → List ℕ → Result (A × List ℕ) RecordFault → Result (A × List ℕ) RecordFault → Type 0
Grows whole more label behind (Ok x) r = r ≡ Ok (x.0, x.1 ++ more)
Grows whole more label behind (Err (Bytes e)) r = (e ≡ Cut whole) × Later whole more behind r
Grows whole more label behind (Err (Tag p)) r = r ≡ Err (Tag p)
Grows whole more label behind (Err (Label p)) r = (r ≡ Err (Label p)) × (behind ≡ label ++ more)

abbrev pub Reaches : {A : Type 0} → List ℕ → Option (A × List ℕ) → Type 0
Reaches more None = Unit {0}
Reaches more (Some x) = length x.1 < length more

abbrev pub Grew : {A : Type 0} → List ℕ → Option (A × List ℕ) → Option (A × List ℕ) → Type 0
Grew more None o = Reaches more o
Grew more (Some x) o = o ≡ Some (x.0, x.1 ++ more)

pub same_place : (whole : ℕ) (more s : List ℕ) → place_in (whole + length more) (s ++ more) ≡ place_in whole s
same_place whole more s = omega (arith, length-append s more)

moved : {A : Type 0} (whole : ℕ) (more l m b c : List ℕ) (r q : Result (A × List ℕ) RecordFault) → l ≡ m → b ≡ c → Grows whole more l b r q → Grows whole more m c r q
moved whole more l m b c r q e f g = subst (λ x. Grows whole more m x r q) f (subst (λ x. Grows whole more x b r q) e g)

-- what is read within the bytes behind
within : {A : Type 0} (most whole : ℕ) (more label s : List ℕ) (r : Result (A × List ℕ) RecordFault) → length s < length more → (length s ≤ whole + length more → Placed most (whole + length more) label s r) → Later whole more label r
within most whole more label s (Ok x) l p = omega (arith, (p (omega arith)).0)
within most whole more label s (Err (Bytes e)) l p = (p (omega arith)).0
within most whole more label s (Err (Tag q)) l p = omega (arith, (p (omega arith)).0)
within most whole more label s (Err (Label q)) l p = let h = p (omega arith) in omega (arith, h.0, h.2)

then_later : {A B : Type 0} (whole : ℕ) (more label : List ℕ) (o : Option (A × List ℕ)) (k : A × List ℕ → Result (B × List ℕ) RecordFault) → Reaches more o
    → ((x : A × List ℕ) → o ≡ Some x → length x.1 < length more → Later whole more label (k x)) → Later whole more label (then Bytes (field (whole + length more) o) k)
then_later whole more label None k h after = refl
then_later whole more label (Some x) k h after = after x refl h

then_grows : {A B : Type 0} (size whole : ℕ) (more s label behind : List ℕ) (o p : Option (A × List ℕ)) (k j : A × List ℕ → Result (B × List ℕ) RecordFault) → Took size s o → Grew more o p
    → ((x : A × List ℕ) → o ≡ Some x → p ≡ Some (x.0, x.1 ++ more) → length x.1 ≤ length s → Grows whole more label behind (k x) (j (x.0, x.1 ++ more)))
    → ((x : A × List ℕ) → p ≡ Some x → length x.1 < length more → Later whole more behind (j x))
    → Grows whole more label behind (then Bytes (field whole o) k) (then Bytes (field (whole + length more) p) j)
then_grows size whole more s label behind None p k j t g on after = (refl, then_later whole more behind p j g after)
then_grows size whole more s label behind (Some x) p k j t g on after =
    subst (λ q. Grows whole more label behind (k x) (then Bytes (field (whole + length more) q) j)) (sym g) (on x refl g (omega (arith, t.0)))

next_later : {A B : Type 0} (whole : ℕ) (more label : List ℕ) (r : Result (A × List ℕ) RecordFault) (k : A × List ℕ → Result (B × List ℕ) RecordFault) → Later whole more label r
    → ((x : A × List ℕ) → length x.1 < length more → Later whole more label (k x)) → Later whole more label (next r k)
next_later whole more label (Ok x) k h after = after x h
next_later whole more label (Err (Bytes e)) k h after = h
next_later whole more label (Err (Tag q)) k h after = h
next_later whole more label (Err (Label q)) k h after = h

next_grows : {A B : Type 0} (most whole : ℕ) (more s label behind : List ℕ) (r q : Result (A × List ℕ) RecordFault) (k j : A × List ℕ → Result (B × List ℕ) RecordFault) → Placed most whole label s r → Grows whole more label behind r q
    → ((x : A × List ℕ) → length x.1 ≤ length s → Grows whole more label behind (k x) (j (x.0, x.1 ++ more))) → ((x : A × List ℕ) → length x.1 < length more → Later whole more behind (j x))
    → Grows whole more label behind (next r k) (next q j)
next_grows most whole more s label behind (Ok x) q k j p g on after = subst (λ r. Grows whole more label behind (k x) (next r j)) (sym g) (on x p.0)
next_grows most whole more s label behind (Err (Bytes e)) q k j p g on after = (g.0, next_later whole more behind q j g.1 after)
next_grows most whole more s label behind (Err (Tag at)) q k j p g on after = ap (λ r. next r j) g
next_grows most whole more s label behind (Err (Label at)) q k j p g on after = (ap (λ r. next r j) g.0, g.1)

byte_grew : (more s : List ℕ) → Grew more (take_byte s) (take_byte (s ++ more))
byte_grew [] [] = tt
byte_grew (m ∷ more) [] = omega arith
byte_grew more (a ∷ s) = refl

word_reaches : (more s : List ℕ) → length s < 4 → Reaches more (take_word (s ++ more))
word_reaches more s l = go (take_word (s ++ more)) (word_took (s ++ more))
  where
    go : (o : Option (ℕ × List ℕ)) → Took 4 (s ++ more) o → Reaches more o
    go None t = tt
    go (Some x) t = omega (arith, t.0, length-append s more)

word_grew : (more s : List ℕ) → Grew more (take_word s) (take_word (s ++ more))
word_grew more [] = word_reaches more [] (omega arith)
word_grew more (a ∷ []) = word_reaches more (a ∷ []) (omega arith)
word_grew more (a ∷ (b ∷ [])) = word_reaches more (a ∷ (b ∷ [])) (omega arith)
word_grew more (a ∷ (b ∷ (c ∷ []))) = word_reaches more (a ∷ (b ∷ (c ∷ []))) (omega arith)
word_grew more (a ∷ (b ∷ (c ∷ (d ∷ s)))) = refl

judged_grows : (whole place : ℕ) (more label l r : List ℕ) (bad : Option ℕ) → Grows whole more label (label ++ more) (judged place (l, r) bad) (judged place (l, r ++ more) bad)
judged_grows whole place more label l r None = refl
judged_grows whole place more label l r (Some i) = (refl, refl)

-- a label that is cut within its text
cut_label : (whole n : ℕ) (more s l r : List ℕ) (bad : Option ℕ) → text_length n ≡ n → length s < n → suc (length s) ≤ whole → length (s ++ more) ≡ length r + n → Later whole more (n ∷ (s ++ more)) (judged (place_in whole s) (l, r) bad)
cut_label whole n more s l r None is h w k = omega (arith, length-append s more)
cut_label whole n more s l r (Some i) is h w k = omega (arith, length-append s more)

text_grows : (whole n : ℕ) (more s : List ℕ) → text_length n ≡ n → suc (length s) ≤ whole → Grows whole more (n ∷ s) (n ∷ (s ++ more)) (read_text whole n s) (read_text (whole + length more) n (s ++ more))
text_grows whole n more s is w = rw (same_place whole more s) (go (leb n (length s)) (leb n (length (s ++ more))) refl refl)
  where
    go : (t u : Bool) → leb n (length s) ≡ t → leb n (length (s ++ more)) ≡ u
        → Grows whole more (n ∷ s) (n ∷ (s ++ more)) (then Bytes (field whole (cond t (Some (take n s, drop n s)) None)) (λ x. judged (place_in whole s) x (first_bad x.0)))
        (then Bytes (field (whole + length more) (cond u (Some (take n (s ++ more), drop n (s ++ more))) None)) (λ x. judged (place_in whole s) x (first_bad x.0)))
    go true true q h =
        let fits = leb-true n (length s) q in
        rw (take-append-le n s more fits, drop-append-le n s more fits) (judged_grows whole (place_in whole s) more (n ∷ s) (take n s) (drop n s) (first_bad (take n s)))
    go true false q h = absurd (omega (arith, leb-true n (length s) q, leb-false n (length (s ++ more)) h, length-append s more))
    go false true q h =
        let long = leb-true n (length (s ++ more)) h in
        (refl, cut_label whole n more s (take n (s ++ more)) (drop n (s ++ more)) (first_bad (take n (s ++ more))) is (leb-false n (length s) q) w (omega (arith, length-drop n (s ++ more))))
    go false false q h = (refl, refl)

-- a label whose length is among the bytes behind
label_within : (whole : ℕ) (more : List ℕ) → Later whole more more (read_label (whole + length more) more)
label_within whole [] = refl
label_within whole (n ∷ more) = go (length_allowed n) refl
  where
    go : (u : Bool) → length_allowed n ≡ u → Later whole (n ∷ more) (n ∷ more) (cond u (read_text (whole + length (n ∷ more)) n more) (Err (Label (place_in (whole + length (n ∷ more)) (n ∷ more)))))
    go true q = within 16 whole (n ∷ more) (n ∷ more) more (read_text (whole + length (n ∷ more)) n more) (omega arith) (λ h. text_placed (whole + length (n ∷ more)) n more (allowed_text n q) (leb-true n 16 (and_parts (leb 1 n) (leb n 16) q).1) (omega arith))
    go false q = omega arith

label_grows : (whole : ℕ) (more s : List ℕ) → length s ≤ whole → Grows whole more s (s ++ more) (read_label whole s) (read_label (whole + length more) (s ++ more))
label_grows whole more [] w = (refl, label_within whole more)
label_grows whole more (n ∷ s) w = rw (same_place whole more (n ∷ s)) (go (length_allowed n) refl)
  where
    go : (u : Bool) → length_allowed n ≡ u → Grows whole more (n ∷ s) (n ∷ (s ++ more)) (cond u (read_text whole n s) (Err (Label (place_in whole (n ∷ s))))) (cond u (read_text (whole + length more) n (s ++ more)) (Err (Label (place_in whole (n ∷ s)))))
    go true q = text_grows whole n more s (allowed_text n q) (omega arith)
    go false q = (refl, refl)

withdrawal_grows : (whole : ℕ) (more label behind s : List ℕ) → Grows whole more label behind (read_withdrawal whole s) (read_withdrawal (whole + length more) (s ++ more))
withdrawal_grows whole more label behind s = then_grows 4 whole more s label behind (take_word s) (take_word (s ++ more)) _ _ (word_took s) (word_grew more s) (λ x e f l. refl) (λ x f l. l)

work_grows : (number work whole : ℕ) (more s : List ℕ) → length s ≤ whole → Grows whole more (drop 4 s) (drop 4 (s ++ more)) (behind_work number work whole s) (behind_work number work (whole + length more) (s ++ more))
work_grows number work whole more s w =
    let all = whole + length more in
    then_grows 4 whole more s (drop 4 s) (drop 4 (s ++ more)) (take_word s) (take_word (s ++ more)) _ _ (word_took s) (word_grew more s)
    (λ t e f l. moved whole more t.1 (drop 4 s) (t.1 ++ more) (drop 4 (s ++ more)) _ _ (word_rest s t e) (word_rest (s ++ more) (t.0, t.1 ++ more) f)
    (next_grows 17 whole more t.1 t.1 (t.1 ++ more) (read_label whole t.1) (read_label all (t.1 ++ more)) _ _ (label_placed whole t.1 (omega arith)) (label_grows whole more t.1 (omega arith)) (λ x k. refl) (λ x k. k)))
    (λ t f l. next_later whole more (drop 4 (s ++ more)) (read_label all t.1) _ (subst (λ label. Later whole more label (read_label all t.1)) (word_rest (s ++ more) t f) (within 17 whole more t.1 t.1 (read_label all t.1) l (label_placed all t.1))) (λ x k. k))

number_grows : (number whole : ℕ) (more s : List ℕ) → length s ≤ whole → Grows whole more (drop 8 s) (drop 8 (s ++ more)) (behind_number number whole s) (behind_number number (whole + length more) (s ++ more))
number_grows number whole more s w =
    let all = whole + length more in
    then_grows 4 whole more s (drop 8 s) (drop 8 (s ++ more)) (take_word s) (take_word (s ++ more)) _ _ (word_took s) (word_grew more s)
    (λ c e f l. moved whole more (drop 4 c.1) (drop 8 s) (drop 4 (c.1 ++ more)) (drop 8 (s ++ more)) _ _ (four_more 4 8 s c e refl) (four_more 4 8 (s ++ more) (c.0, c.1 ++ more) f refl) (work_grows number c.0 whole more c.1 (omega arith)))
    (λ c f l. subst (λ label. Later whole more label (behind_work number c.0 all c.1)) (four_more 4 8 (s ++ more) c f refl) (within 21 whole more (drop 4 c.1) c.1 (behind_work number c.0 all c.1) l (work_placed number c.0 all c.1)))

admission_grows : (whole : ℕ) (more s : List ℕ) → length s ≤ whole → Grows whole more (drop 12 s) (drop 12 (s ++ more)) (read_admission whole s) (read_admission (whole + length more) (s ++ more))
admission_grows whole more s w =
    let all = whole + length more in
    then_grows 4 whole more s (drop 12 s) (drop 12 (s ++ more)) (take_word s) (take_word (s ++ more)) _ _ (word_took s) (word_grew more s)
    (λ n e f l. moved whole more (drop 8 n.1) (drop 12 s) (drop 8 (n.1 ++ more)) (drop 12 (s ++ more)) _ _ (four_more 8 12 s n e refl) (four_more 8 12 (s ++ more) (n.0, n.1 ++ more) f refl) (number_grows n.0 whole more n.1 (omega arith)))
    (λ n f l. subst (λ label. Later whole more label (behind_number n.0 all n.1)) (four_more 8 12 (s ++ more) n f refl) (within 25 whole more (drop 8 n.1) n.1 (behind_number n.0 all n.1) l (number_placed n.0 all n.1)))

-- a record whose first byte is among those behind
record_within : (whole : ℕ) (more : List ℕ) → Later whole more (drop 13 more) (read_record (whole + length more) more)
record_within whole [] = refl
record_within whole (a ∷ more) = go (eqb a 65) (eqb a 87)
  where
    go : (t u : Bool) → Later whole (a ∷ more) (drop 12 more) (cond t (read_admission (whole + length (a ∷ more)) more) (cond u (read_withdrawal (whole + length (a ∷ more)) more) (Err (Tag (place_in (whole + length (a ∷ more)) (a ∷ more))))))
    go true u = within 29 whole (a ∷ more) (drop 12 more) more (read_admission (whole + length (a ∷ more)) more) (omega arith) (admission_placed (whole + length (a ∷ more)) more)
    go false true = within 4 whole (a ∷ more) (drop 12 more) more (read_withdrawal (whole + length (a ∷ more)) more) (omega arith) (withdrawal_placed (whole + length (a ∷ more)) (drop 12 more) more)
    go false false = omega arith

record_grows : (whole : ℕ) (more s : List ℕ) → length s ≤ whole → Grows whole more (drop 13 s) (drop 13 (s ++ more)) (read_record whole s) (read_record (whole + length more) (s ++ more))
record_grows whole more [] w = (refl, record_within whole more)
record_grows whole more (a ∷ s) w = rw (same_place whole more (a ∷ s)) (go (eqb a 65) (eqb a 87))
  where
    go : (t u : Bool) → Grows whole more (drop 12 s) (drop 12 (s ++ more)) (cond t (read_admission whole s) (cond u (read_withdrawal whole s) (Err (Tag (place_in whole (a ∷ s))))))
        (cond t (read_admission (whole + length more) (s ++ more)) (cond u (read_withdrawal (whole + length more) (s ++ more)) (Err (Tag (place_in whole (a ∷ s))))))
    go true u = admission_grows whole more s (omega arith)
    go false true = withdrawal_grows whole more (drop 12 s) (drop 12 (s ++ more)) s
    go false false = refl

pub records_grow : (whole n : ℕ) (more s : List ℕ) → length s ≤ whole → Grows whole more (drop 13 (failing whole n s)) (drop 13 (failing (whole + length more) n (s ++ more))) (read_records whole n s) (read_records (whole + length more) n (s ++ more))
records_grow whole zero more s w = refl
records_grow whole (suc n) more s w =
    go (λ t. records_grow whole n more t) (read_record whole s) (read_record (whole + length more) (s ++ more)) (record_placed whole s w) (record_grows whole more s w)
  where
    later : (q : Result (Seen × List ℕ) RecordFault) → Later whole more (drop 13 (s ++ more)) q
        → Later whole more (drop 13 (failing_in q (s ++ more) (λ t. failing (whole + length more) n t))) (next q (λ x. next (read_records (whole + length more) n x.1) (λ y. Ok (x.0 ∷ y.0, y.1))))
    later (Ok x) l =
        let all = whole + length more in
        let label = drop 13 (failing all n x.1) in
        next_later whole more label (read_records all n x.1) _ (within (30 * n) whole more label x.1 (read_records all n x.1) l (records_placed all n x.1)) (λ y k. k)
    later (Err (Bytes e)) l = l
    later (Err (Tag q)) l = l
    later (Err (Label q)) l = l

    go : ((t : List ℕ) → length t ≤ whole → Grows whole more (drop 13 (failing whole n t)) (drop 13 (failing (whole + length more) n (t ++ more))) (read_records whole n t) (read_records (whole + length more) n (t ++ more)))
        → (r q : Result (Seen × List ℕ) RecordFault) → Placed 30 whole (drop 13 s) s r → Grows whole more (drop 13 s) (drop 13 (s ++ more)) r q
        → Grows whole more (drop 13 (failing_in r s (λ t. failing whole n t))) (drop 13 (failing_in q (s ++ more) (λ t. failing (whole + length more) n t)))
        (next r (λ x. next (read_records whole n x.1) (λ y. Ok (x.0 ∷ y.0, y.1)))) (next q (λ x. next (read_records (whole + length more) n x.1) (λ y. Ok (x.0 ∷ y.0, y.1))))
    go ih (Ok x) q p g =
        let all = whole + length more in
        subst (λ z. Grows whole more (drop 13 (failing whole n x.1)) (drop 13 (failing_in z (s ++ more) (λ t. failing (whole + length more) n t)))
        (next (read_records whole n x.1) (λ y. Ok (x.0 ∷ y.0, y.1))) (next z (λ x. next (read_records (whole + length more) n x.1) (λ y. Ok (x.0 ∷ y.0, y.1))))) (sym g)
        (next_grows (30 * n) whole more x.1 (drop 13 (failing whole n x.1)) (drop 13 (failing all n (x.1 ++ more))) (read_records whole n x.1) (read_records all n (x.1 ++ more)) _ _ (records_placed whole n x.1 (omega (arith, p.0))) (ih x.1 (omega (arith, p.0))) (λ y k. refl) (λ y k. k))
    go ih (Err (Bytes e)) q p g = (g.0, later q g.1)
    go ih (Err (Tag at)) q p g = ap (λ r. next r (λ x. next (read_records (whole + length more) n x.1) (λ y. Ok (x.0 ∷ y.0, y.1)))) g
    go ih (Err (Label at)) q p g =
        (ap (λ r. next r (λ x. next (read_records (whole + length more) n x.1) (λ y. Ok (x.0 ∷ y.0, y.1)))) g.0, ap (λ r. drop 13 (failing_in r (s ++ more) (λ t. failing (whole + length more) n t))) g.0 ∙ g.1)
