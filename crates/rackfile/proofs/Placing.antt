-- What reading takes, and where its faults lie.
use Rattle.std.proofs.Common.{◌≡◌, ℕ, zero, suc, ◌+◌, ◌*◌, ◌<◌, ◌≤◌, Bool, true, false, not, cond, eqb, leb, List, [], ◌∷◌, ◌++◌, length, get_or, take, drop, Some, None, Ok, Err, Option, Result, sym, refl, ap, ◌∙◌, subst, arith}
use Rattle.std.proofs.lemmas.List.{append_assoc, length-drop, length-take-le, take-append-drop, drop-drop}
use Rattle.std.proofs.lemmas.List.Quantifiers.{position-Some}
use Rattle.std.proofs.lemmas.Bool.{and_parts, leb-true, leb-false, eqb-true, cond-true, cond-false}
use Rattle.rackfile.specs.declared.fault.BytesFault.TheVariants.{Cut}
use Rattle.rackfile.specs.declared.fault.RecordFault.{RecordFault}
use Rattle.rackfile.specs.declared.fault.RecordFault.TheVariants.{Bytes, Tag, Label}
use Rattle.rackfile.specs.Reading.{place_in, field, take_byte, take_word}
use Rattle.rackfile.specs.Records.{Seen, admits, withdraws, printable, first_bad, length_allowed, then, next, judged, read_text, read_label, read_admission, read_withdrawal, read_record}
use Rattle.rackfile.specs.Files.{read_records}
use Rattle.rackfile.specs.FaultLaws.{text_length}

-- `t` is the end of `s`
abbrev pub IsEnd : List ℕ → List ℕ → Type 0
IsEnd t s = (before : List ℕ) × (s ≡ before ++ t)

end_of_end : (r t s : List ℕ) → IsEnd r t → IsEnd t s → IsEnd r s
end_of_end r t s (c, e) (d, f) = (d ++ c, f ∙ ap (λ x. d ++ x) e ∙ sym (append_assoc d c r))

-- where a label ends that stands at the front of `label`
abbrev pub label_end : ℕ → List ℕ → ℕ
label_end whole label = place_in whole label + 1 + text_length (get_or label 0 0)

-- What was read of `s`, the end of an input of length `whole`: at most so many bytes, and a fault lies within. Its label, if it comes to one,
-- stands at the front of `label`.
abbrev pub Placed : {A : Type 0} → ℕ → ℕ → List ℕ → List ℕ → Result (A × List ℕ) RecordFault → Type 0
Placed most whole label s (Ok x) = (length x.1 ≤ length s) × (length s ≤ length x.1 + most) × IsEnd x.1 s
Placed most whole label s (Err (Bytes e)) = (e ≡ Cut whole) × (length s < most)
Placed most whole label s (Err (Tag p)) = (whole ≤ p + length s) × (p < whole)
Placed most whole label s (Err (Label p)) = (whole ≤ p + length s) × (whole ≤ p + length label) × (p < label_end whole label) × (label_end whole label ≤ whole)

-- A field of so many bytes.
abbrev pub Took : {A : Type 0} → ℕ → List ℕ → Option (A × List ℕ) → Type 0
Took size s None = length s < size
Took size s (Some x) = (length s ≡ length x.1 + size) × IsEnd x.1 s

placed_from : {A : Type 0} (before most all whole : ℕ) (label s t : List ℕ) (r : Result (A × List ℕ) RecordFault) → IsEnd t s → length t ≤ length s → length s ≤ length t + before → before + most ≤ all → Placed most whole label t r → Placed all whole label s r
placed_from before most all whole label s t (Ok x) e l h k p = (omega (arith, p.0), omega (arith, p.1), end_of_end x.1 t s p.2 e)
placed_from before most all whole label s t (Err (Bytes f)) e l h k p = (p.0, omega (arith, p.1))
placed_from before most all whole label s t (Err (Tag q)) e l h k p = (omega (arith, p.0), p.1)
placed_from before most all whole label s t (Err (Label q)) e l h k p = (omega (arith, p.0), p.1, p.2, p.3)

then_placed : {A B : Type 0} (size most all whole : ℕ) (label s : List ℕ) (o : Option (A × List ℕ)) (k : A × List ℕ → Result (B × List ℕ) RecordFault) → Took size s o → size + most ≤ all
    → ((x : A × List ℕ) → o ≡ Some x → length x.1 ≤ length s → Placed most whole label x.1 (k x)) → Placed all whole label s (then Bytes (field whole o) k)
then_placed size most all whole label s None k t l h = (refl, omega arith)
then_placed size most all whole label s (Some x) k t l h = placed_from size most all whole label s x.1 (k x) t.1 (omega (arith, t.0)) (omega (arith, t.0)) l (h x refl (omega (arith, t.0)))

next_placed : {A B : Type 0} (size most all whole : ℕ) (label s : List ℕ) (r : Result (A × List ℕ) RecordFault) (k : A × List ℕ → Result (B × List ℕ) RecordFault) → Placed size whole label s r → size + most ≤ all
    → ((x : A × List ℕ) → length x.1 ≤ length s → Placed most whole label x.1 (k x)) → Placed all whole label s (next r k)
next_placed size most all whole label s (Ok x) k p l h = placed_from size most all whole label s x.1 (k x) p.2 p.0 p.1 l (h x p.0)
next_placed size most all whole label s (Err (Bytes e)) k p l h = (p.0, omega (arith, p.1))
next_placed size most all whole label s (Err (Tag q)) k p l h = p
next_placed size most all whole label s (Err (Label q)) k p l h = p

-- a value that is read of nothing more
pub placed_ok : (s : List ℕ) → (length s ≤ length s) × (length s ≤ length s + 0) × IsEnd s s
placed_ok s = (omega arith, omega arith, ([], refl))

pub byte_took : (s : List ℕ) → Took 1 s (take_byte s)
byte_took [] = omega arith
byte_took (a ∷ s) = (omega arith, (a ∷ [], refl))

pub word_took : (s : List ℕ) → Took 4 s (take_word s)
word_took [] = omega arith
word_took (a ∷ []) = omega arith
word_took (a ∷ (b ∷ [])) = omega arith
word_took (a ∷ (b ∷ (c ∷ []))) = omega arith
word_took (a ∷ (b ∷ (c ∷ (d ∷ s)))) = (omega arith, (a ∷ (b ∷ (c ∷ (d ∷ []))), refl))

pub word_rest : (s : List ℕ) (x : ℕ × List ℕ) → take_word s ≡ Some x → x.1 ≡ drop 4 s
word_rest [] x e = absurd cc
word_rest (a ∷ []) x e = absurd cc
word_rest (a ∷ (b ∷ [])) x e = absurd cc
word_rest (a ∷ (b ∷ (c ∷ []))) x e = absurd cc
word_rest (a ∷ (b ∷ (c ∷ (d ∷ s)))) x e = let same : (a * 16777216 + b * 65536 + c * 256 + d, s) ≡ x = cc in sym (ap (λ y. y.1) same)

-- a label whose length says `n`, and its text
pub allowed_text : (n : ℕ) → length_allowed n ≡ true → text_length n ≡ n
allowed_text n h = cond-true (length_allowed n) n 0 h

pub no_text : (n : ℕ) → length_allowed n ≡ false → text_length n ≡ 0
no_text n h = cond-false (length_allowed n) n 0 h

judged_placed : (n whole : ℕ) (s l r : List ℕ) (bad : Option ℕ) → first_bad l ≡ bad → text_length n ≡ n → n ≤ 16 → suc (length s) ≤ whole → length l ≡ n → length s ≡ length r + length l → IsEnd r s → Placed 16 whole (n ∷ s) s (judged (place_in whole s) (l, r) bad)
judged_placed n whole s l r None e is m w long h t = (omega arith, omega arith, t)
judged_placed n whole s l r (Some i) e is m w long h t = let k = (position-Some (λ b. not (printable b)) l i 0 e).0 in (omega arith, omega arith, omega arith, omega arith)

pub text_placed : (whole n : ℕ) (s : List ℕ) → text_length n ≡ n → n ≤ 16 → suc (length s) ≤ whole → Placed 16 whole (n ∷ s) s (read_text whole n s)
text_placed whole n s is m w = go (leb n (length s)) refl
  where
    go : (t : Bool) → leb n (length s) ≡ t → Placed 16 whole (n ∷ s) s (then Bytes (field whole (cond t (Some (take n s, drop n s)) None)) (λ x. judged (place_in whole s) x (first_bad x.0)))
    go false q = (refl, omega (arith, leb-false n (length s) q))
    go true q =
        let fits = leb-true n (length s) q in
        let long = length-take-le n s fits in
        judged_placed n whole s (take n s) (drop n s) (first_bad (take n s)) refl is m w long (omega (arith, length-drop n s)) (take n s, sym (take-append-drop n s))

pub label_placed : (whole : ℕ) (s : List ℕ) → length s ≤ whole → Placed 17 whole s s (read_label whole s)
label_placed whole [] w = (refl, omega arith)
label_placed whole (n ∷ s) w = go (length_allowed n) refl
  where
    go : (t : Bool) → length_allowed n ≡ t → Placed 17 whole (n ∷ s) (n ∷ s) (cond t (read_text whole n s) (Err (Label (place_in whole (n ∷ s)))))
    go true q = placed_from 1 16 17 whole (n ∷ s) (n ∷ s) s (read_text whole n s) (n ∷ [], refl) (omega arith) (omega arith) (omega arith) (text_placed whole n s (allowed_text n q) (leb-true n 16 (and_parts (leb 1 n) (leb n 16) q).1) (omega arith))
    go false q = let none = no_text n q in (omega arith, omega arith, omega arith, omega arith)

pub withdrawal_placed : (whole : ℕ) (label s : List ℕ) → length s ≤ whole → Placed 4 whole label s (read_withdrawal whole s)
withdrawal_placed whole label s w = then_placed 4 0 4 whole label s (take_word s) _ (word_took s) (omega arith) (λ x e l. placed_ok x.1)

-- an admission behind its number, and behind its work
abbrev pub behind_work : ℕ → ℕ → ℕ → List ℕ → Result (Seen × List ℕ) RecordFault
behind_work number work whole s = then Bytes (field whole (take_word s)) (λ t. next (read_label whole t.1) (λ l. Ok (admits number work t.0 l.0.0 l.0.1, l.1)))

abbrev pub behind_number : ℕ → ℕ → List ℕ → Result (Seen × List ℕ) RecordFault
behind_number number whole s = then Bytes (field whole (take_word s)) (λ c. behind_work number c.0 whole c.1)

-- so many bytes behind a number is so many and 4 behind what it was read of
pub four_more : (n m : ℕ) (s : List ℕ) (x : ℕ × List ℕ) → take_word s ≡ Some x → 4 + n ≡ m → drop n x.1 ≡ drop m s
four_more n m s x e k = ap (drop n) (word_rest s x e) ∙ drop-drop n 4 s ∙ ap (λ i. drop i s) k

pub work_placed : (number work whole : ℕ) (s : List ℕ) → length s ≤ whole → Placed 21 whole (drop 4 s) s (behind_work number work whole s)
work_placed number work whole s w =
    then_placed 4 17 21 whole (drop 4 s) s (take_word s) _ (word_took s) (omega arith) (λ t e l.
    next_placed 17 0 17 whole (drop 4 s) t.1 (read_label whole t.1) _ (subst (λ label. Placed 17 whole label t.1 (read_label whole t.1)) (word_rest s t e) (label_placed whole t.1 (omega arith))) (omega arith) (λ x k. placed_ok x.1))

pub number_placed : (number whole : ℕ) (s : List ℕ) → length s ≤ whole → Placed 25 whole (drop 8 s) s (behind_number number whole s)
number_placed number whole s w =
    then_placed 4 21 25 whole (drop 8 s) s (take_word s) _ (word_took s) (omega arith) (λ c e l. subst (λ label. Placed 21 whole label c.1 (behind_work number c.0 whole c.1)) (four_more 4 8 s c e refl) (work_placed number c.0 whole c.1 (omega arith)))

pub admission_placed : (whole : ℕ) (s : List ℕ) → length s ≤ whole → Placed 29 whole (drop 12 s) s (read_admission whole s)
admission_placed whole s w =
    then_placed 4 25 29 whole (drop 12 s) s (take_word s) _ (word_took s) (omega arith) (λ n e l. subst (λ label. Placed 25 whole label n.1 (behind_number n.0 whole n.1)) (four_more 8 12 s n e refl) (number_placed n.0 whole n.1 (omega arith)))

-- a record has at most 30 bytes
pub record_placed : (whole : ℕ) (s : List ℕ) → length s ≤ whole → Placed 30 whole (drop 13 s) s (read_record whole s)
record_placed whole [] w = (refl, omega arith)
record_placed whole (a ∷ s) w = go (eqb a 65) (eqb a 87)
  where
    go : (t u : Bool) → Placed 30 whole (drop 12 s) (a ∷ s) (cond t (read_admission whole s) (cond u (read_withdrawal whole s) (Err (Tag (place_in whole (a ∷ s))))))
    go true u = placed_from 1 29 30 whole (drop 12 s) (a ∷ s) s (read_admission whole s) (a ∷ [], refl) (omega arith) (omega arith) (omega arith) (admission_placed whole s (omega arith))
    go false true = placed_from 1 4 30 whole (drop 12 s) (a ∷ s) s (read_withdrawal whole s) (a ∷ [], refl) (omega arith) (omega arith) (omega arith) (withdrawal_placed whole (drop 12 s) s (omega arith))
    go false false = (omega arith, omega arith)

-- what is left where the first record begins that can't be read
abbrev pub failing_in : Result (Seen × List ℕ) RecordFault → List ℕ → (List ℕ → List ℕ) → List ℕ
failing_in (Ok x) s more = more x.1
failing_in (Err e) s more = s

abbrev pub failing : ℕ → ℕ → List ℕ → List ℕ
failing whole zero s = s
failing whole (suc n) s = failing_in (read_record whole s) s (λ t. failing whole n t)

pub records_placed : (whole n : ℕ) (s : List ℕ) → length s ≤ whole → Placed (30 * n) whole (drop 13 (failing whole n s)) s (read_records whole n s)
records_placed whole zero s w = (omega arith, omega arith, ([], refl))
records_placed whole (suc n) s w = go (λ t. records_placed whole n t) (read_record whole s) (record_placed whole s w)
  where
    go : ((t : List ℕ) → length t ≤ whole → Placed (30 * n) whole (drop 13 (failing whole n t)) t (read_records whole n t)) → (r : Result (Seen × List ℕ) RecordFault) → Placed 30 whole (drop 13 s) s r
        → Placed (30 * suc n) whole (drop 13 (failing_in r s (λ t. failing whole n t))) s (next r (λ x. next (read_records whole n x.1) (λ y. Ok (x.0 ∷ y.0, y.1))))
    go ih (Ok x) p =
        let label = drop 13 (failing whole n x.1) in
        placed_from 30 (30 * n) (30 * suc n) whole label s x.1 _ p.2 p.0 p.1 (omega arith)
        (next_placed (30 * n) 0 (30 * n) whole label x.1 (read_records whole n x.1) _ (ih x.1 (omega (arith, p.0))) (omega arith) (λ y l. placed_ok y.1))
    go ih (Err (Bytes e)) p = (p.0, omega (arith, p.1))
    go ih (Err (Tag q)) p = p
    go ih (Err (Label q)) p = p

-- where it ends in a fault of a label, an admission begins there
label_admits : (whole q : ℕ) (s : List ℕ) → read_record whole s ≡ Err (Label q) → get_or s 0 0 ≡ 65
label_admits whole q [] e = absurd cc
label_admits whole q (a ∷ s) e = go (eqb a 65) (eqb a 87) refl e
  where
    withdrawal : (o : Option (ℕ × List ℕ)) → ◌≡◌ {A = Result (Seen × List ℕ) RecordFault} (then Bytes (field whole o) (λ n. Ok (withdraws n.0, n.1))) (Err (Label q)) → a ≡ 65
    withdrawal None k = absurd cc
    withdrawal (Some x) k = absurd cc

    go : (t u : Bool) → eqb a 65 ≡ t → cond t (read_admission whole s) (cond u (read_withdrawal whole s) (Err (Tag (place_in whole (a ∷ s))))) ≡ Err (Label q) → a ≡ 65
    go true u h k = eqb-true a 65 h
    go false true h k = withdrawal (take_word s) k
    go false false h k = absurd cc

pub record Failing (s t : List ℕ) : Type 0 where
  pub its_end : IsEnd t s
  pub admission : get_or t 0 0 ≡ 65

pub failing_admits : (whole n q : ℕ) (s : List ℕ) → length s ≤ whole → read_records whole n s ≡ Err (Label q) → Failing s (failing whole n s)
failing_admits whole zero q s w e = absurd cc
failing_admits whole (suc n) q s w e = go (λ t. failing_admits whole n q t) (read_record whole s) refl (record_placed whole s w) e
  where
    inner : (x : Seen × List ℕ) (r : Result (List Seen × List ℕ) RecordFault) → ◌≡◌ {A = Result (List Seen × List ℕ) RecordFault} (next r (λ y. Ok (x.0 ∷ y.0, y.1))) (Err (Label q)) → r ≡ Err (Label q)
    inner x (Ok y) k = absurd cc
    inner x (Err f) k = cc

    go : ((t : List ℕ) → length t ≤ whole → read_records whole n t ≡ Err (Label q) → Failing t (failing whole n t)) → (r : Result (Seen × List ℕ) RecordFault) → read_record whole s ≡ r → Placed 30 whole (drop 13 s) s r
        → ◌≡◌ {A = Result (List Seen × List ℕ) RecordFault} (next r (λ x. next (read_records whole n x.1) (λ y. Ok (x.0 ∷ y.0, y.1)))) (Err (Label q)) → Failing s (failing_in r s (λ t. failing whole n t))
    go ih (Ok x) h p k =
        let f = ih x.1 (omega (arith, p.0)) (inner x (read_records whole n x.1) k) in
        record { its_end = end_of_end (failing whole n x.1) x.1 s f.its_end p.2; admission = f.admission }
    go ih (Err f) h p k = let same : f ≡ Label q = cc in record { its_end = ([], refl); admission = label_admits whole q s (h ∙ ap (λ z. Err z) same) }
