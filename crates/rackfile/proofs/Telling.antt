-- What a fault of 13 to 16 says of the input.
use Rattle.std.proofs.Common.{◌≡◌, ◌≢◌, ◌⊎◌, ℕ, zero, suc, ◌+◌, ◌-◌, ◌<◌, ◌≤◌, Bool, true, false, not, cond, eqb, ltb, leb, List, [], ◌∷◌, ◌++◌, length, get_or, take, drop, is_some, Some, None, Ok, Err, Option, Result, sym, refl, ap, ◌∙◌, subst, inl, inr, arith}
use Rattle.std.proofs.lemmas.List.{append_assoc, length-append, length-drop, length-take-le, take-append-drop, get_or-append-add, get_or-take}
use Rattle.std.proofs.lemmas.List.Quantifiers.{position-Some}
use Rattle.std.proofs.lemmas.Bool.{not-true, not-false, leb-true, eqb-true, eqb-false}
use Rattle.preferences.specs.declared.policy.Policy.{Policy}
use Rattle.preferences.specs.Policies.{policy_named}
use Rattle.rackfile.specs.declared.fault.BytesFault.{BytesFault}
use Rattle.rackfile.specs.declared.fault.BytesFault.TheVariants.{Cut, TooLong, Trailing}
use Rattle.rackfile.specs.declared.fault.RecordFault.{RecordFault}
use Rattle.rackfile.specs.declared.fault.RecordFault.TheVariants.{Bytes, Tag, Label}
use Rattle.rackfile.specs.declared.fault.FileFault.{FileFault}
use Rattle.rackfile.specs.declared.fault.FileFault.TheVariants.{Record, Mark, Version, Policy as PolicyFault, Processors}
use Rattle.rackfile.specs.Faults.{number_of}
use Rattle.rackfile.specs.Reading.{place_in, field, take_word}
use Rattle.rackfile.specs.Records.{Seen, admits, withdraws, printable, first_bad, length_allowed, then, next, judged, read_text, read_label, read_admission, read_withdrawal, read_record}
use Rattle.rackfile.specs.Files.{cut, right_mark, right_version, processors_allowed, header_fault, count_in, read_records, with_records, with_header}
use Rattle.rackfile.specs.Exact.{AreBytes}
use Rattle.rackfile.specs.FaultLaws.{IsShown, BeginsRecord, IsWrongLabel, Tells, FaultsTell}
use Rattle.rackfile.proofs.Placing.{word_rest, four_more, behind_work, behind_number}
use Rattle.rackfile.proofs.Sequences.{Run}
use Rattle.rackfile.proofs.Stopping.{record_begins}
use Rattle.rackfile.proofs.Judging.{Judged, header_named}
use Rattle.rackfile.proofs.FaultLaws.{judged_so}

-- The header.

head_step : (l end : ℕ) (bad : Bool) (f g : FileFault) (o : Option FileFault) (s : List ℕ) → cond (ltb l end) (Some (cut l)) (cond bad (Some f) o) ≡ Some g → (bad ≡ true → Tells s f) → (bad ≡ false → o ≡ Some g → (g ≡ cut l) ⊎ Tells s g) → (g ≡ cut l) ⊎ Tells s g
head_step l end bad f g o s e tells on = go (ltb l end) bad refl e
  where
    go : (t u : Bool) → bad ≡ u → ◌≡◌ {A = Option FileFault} (cond t (Some (cut l)) (cond u (Some f) o)) (Some g) → (g ≡ cut l) ⊎ Tells s g
    go true u h k = inl (let same : g ≡ cut l = cc in same)
    go false true h k = let same : f ≡ g = cc in inr (subst (Tells s) same (tells h))
    go false false h k = on h k

last_step : (l : ℕ) (g : FileFault) (s : List ℕ) → cond (ltb l 9) (Some (cut l)) None ≡ Some g → (g ≡ cut l) ⊎ Tells s g
last_step l g s e = go (ltb l 9) e
  where
    go : (t : Bool) → ◌≡◌ {A = Option FileFault} (cond t (Some (cut l)) None) (Some g) → (g ≡ cut l) ⊎ Tells s g
    go true k = inl (let same : g ≡ cut l = cc in same)
    go false k = absurd cc

none_named : (o : Option Policy) → not (is_some o) ≡ true → o ≡ None
none_named None h = refl
none_named (Some p) h = absurd cc

header_tells : (s : List ℕ) (g : FileFault) → header_fault (length s) s ≡ Some g → (g ≡ cut (length s)) ⊎ Tells s g
header_tells s g e =
    let l = length s in
    head_step l 3 (not (right_mark s)) Mark g _ s e (λ h. not-true (right_mark s) h) (λ b1 e1. let mark = not-false (right_mark s) b1 in
    head_step l 5 (not (right_version s)) Version g _ s e1 (λ h. (mark, not-true (right_version s) h)) (λ b2 e2. let version = not-false (right_version s) b2 in
    head_step l 6 (not (is_some (policy_named (get_or s 5 0)))) PolicyFault g _ s e2 (λ h. (mark, version, none_named (policy_named (get_or s 5 0)) h)) (λ b3 e3. let named = not-false (is_some (policy_named (get_or s 5 0))) b3 in
    head_step l 7 (not (processors_allowed (get_or s 6 0))) Processors g _ s e3 (λ h. (mark, version, named, not-true (processors_allowed (get_or s 6 0)) h)) (λ b4 e4. last_step l g s e4))))

-- What is wrong with a record that can't be read.

abbrev CutFault : RecordFault → Type 0
CutFault f = (e : BytesFault) × (f ≡ Bytes e)

then_err : {A B : Type 0} (whole : ℕ) (o : Option (A × List ℕ)) (k : A × List ℕ → Result (B × List ℕ) RecordFault) (f : RecordFault) → then Bytes (field whole o) k ≡ Err f → CutFault f ⊎ ((x : A × List ℕ) × (o ≡ Some x) × (k x ≡ Err f))
then_err whole None k f e = inl (Cut whole, let same : Bytes (Cut whole) ≡ f = cc in sym same)
then_err whole (Some x) k f e = inr (x, refl, e)

next_err : {A B : Type 0} (r : Result (A × List ℕ) RecordFault) (k : A × List ℕ → B × List ℕ) (f : RecordFault) → next r (λ x. Ok (k x)) ≡ Err f → r ≡ Err f
next_err (Ok x) k f e = absurd cc
next_err (Err g) k f e = let same : g ≡ f = cc in ap (λ z. Err z) same

-- a label that can't be read, where `label` is it and all that follows
abbrev LabelFails : ℕ → List ℕ → RecordFault → Type 0
LabelFails whole label f = CutFault f ⊎ ((place : ℕ) × (f ≡ Label (place_in whole label + place)) × (0 < length label) × IsWrongLabel label 0 place)

clean_behind : (n i : ℕ) (s : List ℕ) → ((j : ℕ) → j < i → printable (get_or s j 0) ≡ true) → (k : ℕ) → 0 < k → k < suc i → printable (get_or (n ∷ s) k 0) ≡ true
clean_behind n i s h zero l m = absurd (omega arith)
clean_behind n i s h (suc k) l m = h k (omega arith)

text_fails : (whole n : ℕ) (s : List ℕ) (f : RecordFault) → suc (length s) ≤ whole → length_allowed n ≡ true → read_text whole n s ≡ Err f → LabelFails whole (n ∷ s) f
text_fails whole n s f w allowed e = go (leb n (length s)) refl e
  where
    bad : (l r : List ℕ) → l ≡ take n s → length l ≡ n → n ≤ length s → (o : Option ℕ) → first_bad l ≡ o → ◌≡◌ {A = Result ((List ℕ × ℕ) × List ℕ) RecordFault} (judged (place_in whole s) (l, r) o) (Err f) → LabelFails whole (n ∷ s) f
    bad l r is long fits None h k = absurd cc
    bad l r is long fits (Some i) h k =
        let p = position-Some (λ b. not (printable b)) l i 0 h in
        let same : Label (place_in whole s + i) ≡ f = cc in
        let at = λ (j : ℕ) (less : j < n). ap (λ x. get_or x j 0) is ∙ get_or-take n s j 0 less in
        let less : i < n = omega (arith, p.0) in
        let place : place_in whole s + i ≡ place_in whole (n ∷ s) + suc i = omega arith in
        let clean = λ (j : ℕ) (k : j < i). not-false (printable (get_or s j 0)) (sym (ap (λ z. not (printable z)) (at j (omega arith))) ∙ p.2 j k) in
        inr (suc i, sym same ∙ ap (λ z. Label z) place, omega arith, inr (allowed, omega arith, omega arith, not-true (printable (get_or s i 0)) (sym (ap (λ z. not (printable z)) (at i less)) ∙ p.1), clean_behind n i s clean))

    go : (t : Bool) → leb n (length s) ≡ t → ◌≡◌ {A = Result ((List ℕ × ℕ) × List ℕ) RecordFault} (then Bytes (field whole (cond t (Some (take n s, drop n s)) None)) (λ x. judged (place_in whole s) x (first_bad x.0))) (Err f) → LabelFails whole (n ∷ s) f
    go false q k = inl (Cut whole, let same : Bytes (Cut whole) ≡ f = cc in sym same)
    go true q k = let fits = leb-true n (length s) q in bad (take n s) (drop n s) refl (length-take-le n s fits) fits (first_bad (take n s)) refl k

label_fails : (whole : ℕ) (s : List ℕ) (f : RecordFault) → length s ≤ whole → read_label whole s ≡ Err f → LabelFails whole s f
label_fails whole [] f w e = inl (Cut whole, let same : Bytes (Cut whole) ≡ f = cc in sym same)
label_fails whole (n ∷ s) f w e = go (length_allowed n) refl e
  where
    go : (t : Bool) → length_allowed n ≡ t → ◌≡◌ {A = Result ((List ℕ × ℕ) × List ℕ) RecordFault} (cond t (read_text whole n s) (Err (Label (place_in whole (n ∷ s))))) (Err f) → LabelFails whole (n ∷ s) f
    go true q k = text_fails whole n s f (omega arith) q k
    go false q k =
        let same : Label (place_in whole (n ∷ s)) ≡ f = cc in
        let place : place_in whole (n ∷ s) ≡ place_in whole (n ∷ s) + 0 = omega arith in
        inr (0, sym same ∙ ap (λ z. Label z) place, omega arith, inl (refl, q))

work_fails : (number work whole : ℕ) (s : List ℕ) (f : RecordFault) → behind_work number work whole s ≡ Err f → CutFault f ⊎ (read_label whole (drop 4 s) ≡ Err f)
work_fails number work whole s f e = go (then_err whole (take_word s) _ f e)
  where
    go : CutFault f ⊎ ((x : ℕ × List ℕ) × (take_word s ≡ Some x) × (next {B = Seen × List ℕ} (read_label whole x.1) (λ l. Ok (admits number work x.0 l.0.0 l.0.1, l.1)) ≡ Err f)) → CutFault f ⊎ (read_label whole (drop 4 s) ≡ Err f)
    go (inl h) = inl h
    go (inr (x, h, k)) = inr (ap (read_label whole) (sym (word_rest s x h)) ∙ next_err (read_label whole x.1) _ f k)

moved : (whole : ℕ) (s t : List ℕ) (f : RecordFault) → s ≡ t → CutFault f ⊎ (read_label whole s ≡ Err f) → CutFault f ⊎ (read_label whole t ≡ Err f)
moved whole s t f e h = subst (λ x. CutFault f ⊎ (read_label whole x ≡ Err f)) e h

number_fails : (number whole : ℕ) (s : List ℕ) (f : RecordFault) → behind_number number whole s ≡ Err f → CutFault f ⊎ (read_label whole (drop 8 s) ≡ Err f)
number_fails number whole s f e = go (then_err whole (take_word s) _ f e)
  where
    go : CutFault f ⊎ ((x : ℕ × List ℕ) × (take_word s ≡ Some x) × (behind_work number x.0 whole x.1 ≡ Err f)) → CutFault f ⊎ (read_label whole (drop 8 s) ≡ Err f)
    go (inl h) = inl h
    go (inr (x, h, k)) = moved whole (drop 4 x.1) (drop 8 s) f (four_more 4 8 s x h refl) (work_fails number x.0 whole x.1 f k)

admission_fails : (whole : ℕ) (s : List ℕ) (f : RecordFault) → read_admission whole s ≡ Err f → CutFault f ⊎ (read_label whole (drop 12 s) ≡ Err f)
admission_fails whole s f e = go (then_err whole (take_word s) _ f e)
  where
    go : CutFault f ⊎ ((x : ℕ × List ℕ) × (take_word s ≡ Some x) × (behind_number x.0 whole x.1 ≡ Err f)) → CutFault f ⊎ (read_label whole (drop 12 s) ≡ Err f)
    go (inl h) = inl h
    go (inr (x, h, k)) = moved whole (drop 8 x.1) (drop 12 s) f (four_more 8 12 s x h refl) (number_fails x.0 whole x.1 f k)

-- a record that can't be read: it is cut, or has a wrong tag, or is an admission with a wrong label
abbrev RecordFails : ℕ → List ℕ → RecordFault → Type 0
RecordFails whole s f =
    CutFault f
    ⊎ (((f ≡ Tag (place_in whole s)) × (get_or s 0 0 ≢ 65) × (get_or s 0 0 ≢ 87))
    ⊎ ((get_or s 0 0 ≡ 65) × (place : ℕ) × (f ≡ Label (place_in whole (drop 13 s) + place)) × (0 < length (drop 13 s)) × IsWrongLabel (drop 13 s) 0 place))

record_fails : (whole : ℕ) (s : List ℕ) (f : RecordFault) → length s ≤ whole → read_record whole s ≡ Err f → RecordFails whole s f
record_fails whole [] f w e = inl (Cut whole, let same : Bytes (Cut whole) ≡ f = cc in sym same)
record_fails whole (a ∷ s) f w e = go (eqb a 65) (eqb a 87) refl refl e
  where
    label : a ≡ 65 → LabelFails whole (drop 12 s) f → RecordFails whole (a ∷ s) f
    label is (inl h) = inl h
    label is (inr (place, h, some, wrong)) = inr (inr (is, place, h, some, wrong))

    admission : a ≡ 65 → CutFault f ⊎ (read_label whole (drop 12 s) ≡ Err f) → RecordFails whole (a ∷ s) f
    admission is (inl h) = inl h
    admission is (inr h) = label is (label_fails whole (drop 12 s) f (omega (arith, length-drop 12 s)) h)

    withdrawal : CutFault f ⊎ ((x : ℕ × List ℕ) × (take_word s ≡ Some x) × (◌≡◌ {A = Result (Seen × List ℕ) RecordFault} (Ok (withdraws x.0, x.1)) (Err f))) → RecordFails whole (a ∷ s) f
    withdrawal (inl h) = inl h
    withdrawal (inr (x, h, k)) = absurd cc

    go : (t u : Bool) → eqb a 65 ≡ t → eqb a 87 ≡ u → cond t (read_admission whole s) (cond u (read_withdrawal whole s) (Err (Tag (place_in whole (a ∷ s))))) ≡ Err f → RecordFails whole (a ∷ s) f
    go true u p q k = admission (eqb-true a 65 p) (admission_fails whole s f k)
    go false true p q k = withdrawal (then_err whole (take_word s) _ f k)
    go false false p q k = let same : Tag (place_in whole (a ∷ s)) ≡ f = cc in inr (inl (sym same, eqb-false a 65 p, eqb-false a 87 q))

behind_front : (input front rest : List ℕ) (j k : ℕ) → input ≡ front ++ rest → length front + j ≡ k → get_or input k 0 ≡ get_or rest j 0
behind_front input front rest j k is h = ap (λ x. get_or x k 0) is ∙ ap (λ i. get_or (front ++ rest) i 0) (sym h) ∙ get_or-append-add front rest j 0

-- the same of the input, in which a front stands before the label
wrong_in : (input front label : List ℕ) (place : ℕ) → input ≡ front ++ label → IsWrongLabel label 0 place → IsWrongLabel input (length front) (length front + place)
wrong_in input front label place is wrong = go wrong
  where
    clean : ((k : ℕ) → 0 < k → k < place → printable (get_or label k 0) ≡ true) → (k : ℕ) → length front < k → k < length front + place → printable (get_or input k 0) ≡ true
    clean h k l m = ap printable (behind_front input front label (k - length front) k is (omega arith)) ∙ h (k - length front) (omega arith) (omega arith)

    its_length : length_allowed (get_or input (length front) 0) ≡ length_allowed (get_or label 0 0)
    its_length = ap length_allowed (behind_front input front label 0 (length front) is (omega arith))

    go : IsWrongLabel label 0 place → IsWrongLabel input (length front) (length front + place)
    go (inl (e, bad)) = inl (omega arith, its_length ∙ bad)
    go (inr (allowed, l, m, bad, before)) =
        inr (its_length ∙ allowed, omega arith, omega (arith, behind_front input front label 0 (length front) is (omega arith)), ap printable (behind_front input front label place (length front + place) is refl) ∙ bad, clean before)

-- The file.

-- a record that can't be read where one begins
module _ (input front rest : List ℕ) (bytes : input ≡ front ++ rest) (begins : BeginsRecord input (length front)) where
  place_is : place_in (length input) rest ≡ length front
  place_is = omega (arith, ap length bytes, length-append front rest)

  tag_tells : (q : ℕ) → RecordFails (length input) rest (Tag q) → Tells input (Record (Tag q))
  tag_tells q (inl (e, same)) = absurd cc
  tag_tells q (inr (inl (same, a, w))) =
      let here : place_in (length input) rest ≡ q = cc in
      let is : length front ≡ q = sym place_is ∙ here in
      let at = behind_front input front rest 0 q bytes (omega arith) in
      (subst (BeginsRecord input) is begins, λ h. a (sym at ∙ h), λ h. w (sym at ∙ h))
  tag_tells q (inr (inr (is, place, same, some, wrong))) = absurd cc

  label_tells : (q : ℕ) → RecordFails (length input) rest (Label q) → Tells input (Record (Label q))
  label_tells q (inl (e, same)) = absurd cc
  label_tells q (inr (inl (same, a, w))) = absurd cc
  label_tells q (inr (inr (is, place, same, some, wrong))) =
      let here : q ≡ place_in (length input) (drop 13 rest) + place = cc in
      let before = front ++ take 13 rest in
      let long : length before ≡ length front + 13 = omega (arith, length-append front (take 13 rest), length-take-le 13 rest (omega (arith, length-drop 13 rest)), length-drop 13 rest) in
      let whole : input ≡ before ++ drop 13 rest = bytes ∙ ap (λ x. front ++ x) (sym (take-append-drop 13 rest)) ∙ sym (append_assoc front (take 13 rest) (drop 13 rest)) in
      let at : length before + place ≡ q = omega (arith, ap length whole, length-append before (drop 13 rest), here) in
      (length front, begins, behind_front input front rest 0 (length front) bytes (omega arith) ∙ is, subst (IsWrongLabel input (length front + 13)) at (subst (λ k. IsWrongLabel input k (length before + place)) long (wrong_in input before (drop 13 rest) place whole wrong)))

record_tells : (input : List ℕ) (p : Policy) (e : RecordFault) → AreBytes input → header_fault (length input) input ≡ None → policy_named (get_or input 5 0) ≡ Some p → read_records (length input) (count_in input) (drop 9 input) ≡ Err e → IsShown (Record e) → Tells input (Record e)
record_tells input p e b right named h shown =
    let it = record_begins input p e b right named h in
    go e it.front it.rest it.bytes it.begins (record_fails (length input) it.rest e (omega (arith, ap length it.bytes, length-append it.front it.rest)) it.fails) shown
  where
    go : (f : RecordFault) (front rest : List ℕ) → input ≡ front ++ rest → BeginsRecord input (length front) → RecordFails (length input) rest f → IsShown (Record f) → Tells input (Record f)
    go (Bytes TooLong) front rest is begins h s = absurd (omega (arith, s.0))
    go (Bytes (Cut q)) front rest is begins h s = absurd (omega (arith, s.0))
    go (Bytes (Trailing q)) front rest is begins h s = absurd (omega (arith, s.1))
    go (Tag q) front rest is begins h s = tag_tells input front rest is begins q h
    go (Label q) front rest is begins h s = label_tells input front rest is begins q h

pub faults_tell : FaultsTell
faults_tell input f b e shown =
    let j = judged_so input f e (λ k. let low = shown.0 in omega arith) in
    go (header_fault (length input) input) refl j.0
  where
    header : (g : FileFault) → g ≡ f → (g ≡ cut (length input)) ⊎ Tells input g → Tells input f
    header g same (inl is) = absurd (let n = ap number_of (sym is ∙ same) in let low = shown.0 in omega arith)
    header g same (inr told) = subst (Tells input) same told

    records : (o : Option Policy) (r : Run) → policy_named (get_or input 5 0) ≡ o → is_some o ≡ true → read_records (length input) (count_in input) (drop 9 input) ≡ r → header_fault (length input) input ≡ None → with_records (length input) o (get_or input 6 0) r ≡ Err f → Tells input f
    records None r named some h right k = absurd cc
    records (Some p) (Err x) named some h right k =
        let same : Record x ≡ f = cc in
        subst (Tells input) same (record_tells input p x b right named h (subst IsShown (sym same) shown))
    records (Some p) (Ok x) named some h right k = absurd (end (eqb (length x.1) 0) k)
      where
        end : (t : Bool) → ◌≡◌ {A = Judged} (cond t (Ok (record { policy = p; processors = get_or input 6 0; records = x.0 })) (Err (Record (Bytes (Trailing (place_in (length input) x.1)))))) (Err f) → ⊥
        end true q = cc
        end false q = let same : Record (Bytes (Trailing (place_in (length input) x.1))) ≡ f = cc in let n = ap number_of same in let high = shown.1 in omega arith

    go : (o : Option FileFault) → header_fault (length input) input ≡ o → with_header input o ≡ Err f → Tells input f
    go (Some g) h k = header g (let same : g ≡ f = cc in same) (header_tells input g h)
    go None h k = records (policy_named (get_or input 5 0)) (read_records (length input) (count_in input) (drop 9 input)) refl (header_named (length input) input h) refl h k
