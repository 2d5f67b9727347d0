-- Judging an input, and judging it again with more bytes behind.
use Rattle.std.proofs.Common.{◌≡◌, ◌⊎◌, ℕ, ◌+◌, ◌-◌, ◌*◌, ◌^◌, ◌<◌, ◌≤◌, Bool, true, false, not, cond, ◌==◌, eqb, ltb, List, [], ◌∷◌, ◌++◌, length, get_or, take, drop, is_some, Some, None, Ok, Err, Option, Result, sym, refl, ap, ◌∙◌, subst, inl, inr, arith}
use Rattle.std.proofs.lemmas.List.{append_assoc, length-append, length-drop, take-append-drop, drop-append-le, get_or_append_left, get_or-append-add, get_or-drop}
use Rattle.std.proofs.lemmas.Bool.{ltb-true, ltb-false, ne_eqb, cond-false, not-false}
use Rattle.preferences.specs.declared.policy.Policy.{Policy}
use Rattle.preferences.specs.Policies.{policy_named}
use Rattle.rackfile.specs.declared.fault.BytesFault.TheVariants.{TooLong, Cut, Trailing}
use Rattle.rackfile.specs.declared.fault.RecordFault.TheVariants.{Bytes, Tag, Label}
use Rattle.rackfile.specs.declared.fault.FileFault.{FileFault}
use Rattle.rackfile.specs.declared.fault.FileFault.TheVariants.{Record, Mark, Version, Policy as PolicyFault, Processors}
use Rattle.rackfile.specs.Reading.{place_in}
use Rattle.rackfile.specs.Files.{File, cut, is_mark, is_version, processors_allowed, header_fault, count_in, read_records, with_records, with_header, judging}
use Rattle.rackfile.specs.Exact.{AreBytes}
use Rattle.rackfile.proofs.Undoing.{cond-none}
use Rattle.rackfile.specs.FaultLaws.{text_length, BeginsRecord, EndsLabel}
use Rattle.rackfile.proofs.Sequences.{Run}
use Rattle.rackfile.proofs.Placing.{label_end, Placed, records_placed, failing, failing_admits}
use Rattle.rackfile.proofs.Stopping.{record_begins}
use Rattle.rackfile.proofs.Growing.{Later, Grows, same_place, records_grow}

-- so long is an input that shows the fault by a field; `end` is where the label ends, if the fault is one of a label
abbrev pub Long : FileFault → ℕ → ℕ → Type 0
Long (Record (Bytes TooLong)) end l = ⊥
Long (Record (Bytes (Cut p))) end l = ⊥
Long (Record (Bytes (Trailing p))) end l = p < l
Long (Record (Tag p)) end l = p < l
Long (Record (Label p)) end l = (p < end) × (end ≤ l)
Long Mark end l = 3 ≤ l
Long Version end l = 5 ≤ l
Long PolicyFault end l = 6 ≤ l
Long Processors end l = 7 ≤ l

-- and so short is one that is cut, where bytes behind it bring the fault
abbrev pub Short : FileFault → ℕ → ℕ → Type 0
Short (Record (Bytes TooLong)) end l = Unit {0}
Short (Record (Bytes (Cut p))) end l = Unit {0}
Short (Record (Bytes (Trailing p))) end l = l < p
Short (Record (Tag p)) end l = l ≤ p
Short (Record (Label p)) end l = l < end
Short Mark end l = l < 3
Short Version end l = l < 5
Short PolicyFault end l = l < 6
Short Processors end l = l < 7

-- The header: one of length `l`, and the same with bytes behind.

abbrev HeadLater : ℕ → ℕ → Option FileFault → Type 0
HeadLater z l None = Unit {0}
HeadLater z l (Some f) = Short f z l

abbrev HeadGrows : ℕ → ℕ → Option FileFault → Option FileFault → Type 0
HeadGrows z l None o = (9 ≤ l) × (o ≡ None)
HeadGrows z l (Some f) o = ((f ≡ cut l) × (l < 9) × HeadLater z l o) ⊎ ((o ≡ Some f) × Long f z l)

later_step : (z l m end : ℕ) (bad : Bool) (f : FileFault) (o : Option FileFault) → Short f z l → HeadLater z l o → HeadLater z l (cond (ltb m end) (Some (cut m)) (cond bad (Some f) o))
later_step z l m end bad f o short later = go (ltb m end) bad
  where
    go : (t u : Bool) → HeadLater z l (cond t (Some (cut m)) (cond u (Some f) o))
    go true u = tt
    go false true = short
    go false false = later

head_step : (z l m end : ℕ) (bad bad' : Bool) (f : FileFault) (o o' : Option FileFault) → l ≤ m → end ≤ 9 → (end ≤ l → bad' ≡ bad) → (end ≤ l → Long f z l) → (l < end → Short f z l) → (l < end → HeadLater z l o') → HeadGrows z l o o'
    → HeadGrows z l (cond (ltb l end) (Some (cut l)) (cond bad (Some f) o)) (cond (ltb m end) (Some (cut m)) (cond bad' (Some f) o'))
head_step z l m end bad bad' f o o' le most same long short later g = go (ltb l end) (ltb m end) refl refl
  where
    whole : (u : Bool) → Long f z l → HeadGrows z l (cond u (Some f) o) (cond u (Some f) o')
    whole true h = inr (refl, h)
    whole false h = g

    go : (t u : Bool) → ltb l end ≡ t → ltb m end ≡ u → HeadGrows z l (cond t (Some (cut l)) (cond bad (Some f) o)) (cond u (Some (cut m)) (cond bad' (Some f) o'))
    go true u q h =
        let less = ltb-true l end q in
        inl (refl, omega arith, subst (λ b. HeadLater z l (cond b (Some (cut m)) (cond bad' (Some f) o'))) h (later_step z l m end bad' f o' (short less) (later less)))
    go false true q h = absurd (omega (arith, ltb-false l end q, ltb-true m end h))
    go false false q h =
        let enough = ltb-false l end q in
        subst (λ b. HeadGrows z l (cond bad (Some f) o) (cond b (Some f) o')) (sym (same enough)) (whole bad (long enough))

last_step : (z l m : ℕ) → l ≤ m → HeadGrows z l (cond (ltb l 9) (Some (cut l)) None) (cond (ltb m 9) (Some (cut m)) None)
last_step z l m le = go (ltb l 9) (ltb m 9) refl refl
  where
    go : (t u : Bool) → ltb l 9 ≡ t → ltb m 9 ≡ u → HeadGrows z l (cond t (Some (cut l)) None) (cond u (Some (cut m)) None)
    go true true q h = inl (refl, ltb-true l 9 q, tt)
    go true false q h = inl (refl, ltb-true l 9 q, tt)
    go false true q h = absurd (omega (arith, ltb-false l 9 q, ltb-true m 9 h))
    go false false q h = (ltb-false l 9 q, refl)

last_later : (z l m : ℕ) → HeadLater z l (cond (ltb m 9) (Some (cut m)) None)
last_later z l m = go (ltb m 9)
  where
    go : (t : Bool) → HeadLater z l (cond t (Some (cut m)) None)
    go true = tt
    go false = tt

header_grows : (z : ℕ) (s more : List ℕ) → HeadGrows z (length s) (header_fault (length s) s) (header_fault (length (s ++ more)) (s ++ more))
header_grows z s more =
    let l = length s in
    let m = length (s ++ more) in
    let le : l ≤ m = omega (arith, length-append s more) in
    let at = λ (i : ℕ) (h : i < l). get_or_append_left s more 0 i h in
    let k9 = last_later z l m in
    let k7 = λ (h : l < 7). later_step z l m 7 (not (processors_allowed (get_or (s ++ more) 6 0))) Processors _ h k9 in
    let k6 = λ (h : l < 6). later_step z l m 6 (not (is_some (policy_named (get_or (s ++ more) 5 0)))) PolicyFault _ h (k7 (omega arith)) in
    let k5 = λ (h : l < 5). later_step z l m 5 (not (is_version (get_or (s ++ more) 3 0) (get_or (s ++ more) 4 0))) Version _ h (k6 (omega arith)) in
    let g9 = last_step z l m le in
    let g7 = head_step z l m 7 (not (processors_allowed (get_or s 6 0))) (not (processors_allowed (get_or (s ++ more) 6 0))) Processors _ _ le (omega arith) (λ h. ap (λ a. not (processors_allowed a)) (at 6 (omega arith))) (λ h. h) (λ h. h) (λ h. k9) g9 in
    let g6 = head_step z l m 6 (not (is_some (policy_named (get_or s 5 0)))) (not (is_some (policy_named (get_or (s ++ more) 5 0)))) PolicyFault _ _ le (omega arith) (λ h. ap (λ a. not (is_some (policy_named a))) (at 5 (omega arith))) (λ h. h) (λ h. h) (λ h. k7 (omega arith)) g7 in
    let g5 = head_step z l m 5 (not (is_version (get_or s 3 0) (get_or s 4 0))) (not (is_version (get_or (s ++ more) 3 0) (get_or (s ++ more) 4 0))) Version _ _ le (omega arith) (λ h. ap (λ a. not (is_version a (get_or (s ++ more) 4 0))) (at 3 (omega arith)) ∙ ap (λ a. not (is_version (get_or s 3 0) a)) (at 4 (omega arith))) (λ h. h) (λ h. h) (λ h. k6 (omega arith)) g6 in
    head_step z l m 3 (not (is_mark (get_or s 0 0) (get_or s 1 0) (get_or s 2 0))) (not (is_mark (get_or (s ++ more) 0 0) (get_or (s ++ more) 1 0) (get_or (s ++ more) 2 0))) Mark _ _ le (omega arith)
    (λ h. ap (λ a. not (is_mark a (get_or (s ++ more) 1 0) (get_or (s ++ more) 2 0))) (at 0 (omega arith)) ∙ ap (λ a. not (is_mark (get_or s 0 0) a (get_or (s ++ more) 2 0))) (at 1 (omega arith)) ∙ ap (λ a. not (is_mark (get_or s 0 0) (get_or s 1 0) a)) (at 2 (omega arith)))
    (λ h. h) (λ h. h) (λ h. k5 (omega arith)) g5

-- a header without a fault has a policy's letter
pub header_named : (whole : ℕ) (s : List ℕ) → header_fault whole s ≡ None → is_some (policy_named (get_or s 5 0)) ≡ true
header_named whole s e =
    let c1 = cond-none (ltb (length s) 3) _ _ e in
    let c2 = cond-none (not (is_mark (get_or s 0 0) (get_or s 1 0) (get_or s 2 0))) _ _ c1.1 in
    let c3 = cond-none (ltb (length s) 5) _ _ c2.1 in
    let c4 = cond-none (not (is_version (get_or s 3 0) (get_or s 4 0))) _ _ c3.1 in
    let c5 = cond-none (ltb (length s) 6) _ _ c4.1 in
    let c6 = cond-none (not (is_some (policy_named (get_or s 5 0)))) _ _ c5.1 in
    not-false (is_some (policy_named (get_or s 5 0))) c6.0

pub header_long : (s : List ℕ) → header_fault (length s) s ≡ None → 9 ≤ length s
header_long s e = (subst (λ o. HeadGrows 0 (length s) o (header_fault (length (s ++ [])) (s ++ []))) e (header_grows 0 s [])).0

-- The file: an input of length `l`, and the same with bytes behind.

abbrev pub Judged : Type 0
Judged = Result File FileFault

abbrev pub Comes : ℕ → ℕ → Judged → Type 0
Comes end l (Ok g) = Unit {0}
Comes end l (Err f) = Short f end l

abbrev pub Behind : ℕ → List ℕ → File → Judged → Type 0
Behind l [] g r = r ≡ Ok g
Behind l (b ∷ more) g r = r ≡ Err (Record (Bytes (Trailing l)))

abbrev pub FaultGrows : ℕ → ℕ → FileFault → Judged → Type 0
FaultGrows end l (Record (Bytes TooLong)) r = ⊥
FaultGrows end l (Record (Bytes (Cut p))) r = (p ≡ l) × Comes end l r
FaultGrows end l (Record (Bytes (Trailing p))) r = (r ≡ Err (Record (Bytes (Trailing p)))) × (p < l)
FaultGrows end l (Record (Tag p)) r = (r ≡ Err (Record (Tag p))) × (p < l)
FaultGrows end l (Record (Label p)) r = (r ≡ Err (Record (Label p))) × Long (Record (Label p)) end l
FaultGrows end l Mark r = (r ≡ Err Mark) × (3 ≤ l)
FaultGrows end l Version r = (r ≡ Err Version) × (5 ≤ l)
FaultGrows end l PolicyFault r = (r ≡ Err PolicyFault) × (6 ≤ l)
FaultGrows end l Processors r = (r ≡ Err Processors) × (7 ≤ l)

abbrev pub JudgingGrows : ℕ → ℕ → List ℕ → Judged → Judged → Type 0
JudgingGrows end l more (Ok g) r = Behind l more g r
JudgingGrows end l more (Err f) r = FaultGrows end l f r

stays : (f : FileFault) (end l : ℕ) → Long f end l → FaultGrows end l f (Err f)
stays (Record (Bytes TooLong)) end l h = h
stays (Record (Bytes (Cut p))) end l h = absurd h
stays (Record (Bytes (Trailing p))) end l h = (refl, h)
stays (Record (Tag p)) end l h = (refl, h)
stays (Record (Label p)) end l h = (refl, h)
stays Mark end l h = (refl, h)
stays Version end l h = (refl, h)
stays PolicyFault end l h = (refl, h)
stays Processors end l h = (refl, h)

-- the end of a file whose records are read
abbrev ended : ℕ → File → List ℕ → Judged
ended whole g rest = cond (length rest == 0) (Ok g) (Err (Record (Bytes (Trailing (place_in whole rest)))))

ended_trailing : (whole : ℕ) (g : File) (rest : List ℕ) → 0 < length rest → ended whole g rest ≡ Err (Record (Bytes (Trailing (place_in whole rest))))
ended_trailing whole g rest h = cond-false (eqb (length rest) 0) (Ok g) _ (ne_eqb (length rest) 0 (λ e. omega arith))

ended_grows : (end l : ℕ) (more : List ℕ) (g : File) (rest : List ℕ) → length rest ≤ l → JudgingGrows end l more (ended l g rest) (ended (l + length more) g (rest ++ more))
ended_grows end l [] g [] h = refl
ended_grows end l (b ∷ more) g [] h =
    ended_trailing (l + length (b ∷ more)) g (b ∷ more) (omega arith) ∙ ap (λ p. Err (Record (Bytes (Trailing p)))) (let e : l + length (b ∷ more) - length (b ∷ more) ≡ l = omega arith in e)
ended_grows end l more g (a ∷ rest) h =
    let p = place_in l (a ∷ rest) in
    let same : place_in (l + length more) ((a ∷ rest) ++ more) ≡ p = omega (arith, length-append (a ∷ rest) more) in
    let long : p < l = omega arith in
    let then' = ended_trailing (l + length more) g ((a ∷ rest) ++ more) (omega (arith, length-append (a ∷ rest) more)) ∙ ap (λ q. Err (Record (Bytes (Trailing q)))) same in
    subst (λ r. JudgingGrows end l more r (ended (l + length more) g ((a ∷ rest) ++ more))) (sym (ended_trailing l g (a ∷ rest) (omega arith))) (then', long)

records_come : (l : ℕ) (more label : List ℕ) (p : Policy) (m : ℕ) (r : Run) → Later l more label r → Comes (label_end (l + length more) label) l (with_records (l + length more) (Some p) m r)
records_come l more label p m (Ok x) h = go (eqb (length x.1) 0)
  where
    go : (t : Bool) → Comes (label_end (l + length more) label) l (cond t (Ok (record { policy = p; processors = m; records = x.0 })) (Err (Record (Bytes (Trailing (place_in (l + length more) x.1))))))
    go true = tt
    go false = omega arith
records_come l more label p m (Err (Bytes e)) h = subst (λ x. Short (Record (Bytes x)) (label_end (l + length more) label) l) (sym h) tt
records_come l more label p m (Err (Tag q)) h = h
records_come l more label p m (Err (Label q)) h = h

-- a label that is there ends where it did
same_end : (l : ℕ) (more label behind : List ℕ) → behind ≡ label ++ more → label_end l label ≤ l → label_end (l + length more) behind ≡ label_end l label
same_end l more label behind e h =
    ap (label_end (l + length more)) e ∙ ap (λ k. k + 1 + text_length (get_or (label ++ more) 0 0)) (same_place l more label) ∙ ap (λ k. place_in l label + 1 + text_length k) (get_or_append_left label more 0 0 (omega arith))

with_records_grows : (l most : ℕ) (more label behind s : List ℕ) (o : Option Policy) (m : ℕ) (r q : Run) → 6 ≤ l → length s ≤ l → Placed most l label s r → Grows l more label behind r q
    → JudgingGrows (label_end (l + length more) behind) l more (with_records l o m r) (with_records (l + length more) o m q)
with_records_grows l most more label behind s None m r q six w p g = (refl, six)
with_records_grows l most more label behind s (Some y) m (Ok x) q six w p g =
    let f : File = record { policy = y; processors = m; records = x.0 } in
    let end = label_end (l + length more) behind in
    subst (λ z. JudgingGrows end l more (ended l f x.1) (with_records (l + length more) (Some y) m z)) (sym g) (ended_grows end l more f x.1 (omega (arith, p.0)))
with_records_grows l most more label behind s (Some y) m (Err (Bytes e)) q six w p g =
    subst (λ x. FaultGrows (label_end (l + length more) behind) l (Record (Bytes x)) (with_records (l + length more) (Some y) m q)) (sym g.0) (refl, records_come l more behind y m q g.1)
with_records_grows l most more label behind s (Some y) m (Err (Tag at)) q six w p g = (ap (with_records (l + length more) (Some y) m) g, p.1)
with_records_grows l most more label behind s (Some y) m (Err (Label at)) q six w p g =
    let same = same_end l more label behind g.1 p.3 in
    (ap (with_records (l + length more) (Some y) m) g.0, (subst (λ k. at < k) (sym same) p.2, subst (λ k. k ≤ l) (sym same) p.3))

-- what records behind a header bring, where the input was cut within the header
header_cut : (l most whole : ℕ) (label s : List ℕ) (o : Option Policy) (m : ℕ) (r : Run) → is_some o ≡ true → l < 9 → whole ≡ 9 + length s → Placed most whole label s r → Comes (label_end whole label) l (with_records whole o m r)
header_cut l most whole label s None m r named short w p = absurd cc
header_cut l most whole label s (Some y) m (Ok x) named short w p = go (eqb (length x.1) 0)
  where
    go : (t : Bool) → Comes (label_end whole label) l (cond t (Ok (record { policy = y; processors = m; records = x.0 })) (Err (Record (Bytes (Trailing (place_in whole x.1))))))
    go true = tt
    go false = omega (arith, p.0)
header_cut l most whole label s (Some y) m (Err (Bytes e)) named short w p = subst (λ x. Short (Record (Bytes x)) (label_end whole label) l) (sym p.0) tt
header_cut l most whole label s (Some y) m (Err (Tag q)) named short w p = omega (arith, p.0)
header_cut l most whole label s (Some y) m (Err (Label q)) named short w p = omega (arith, p.0, p.2)

-- where the label begins that an input with a fault of a label comes to, and where it ends
abbrev pub file_label : List ℕ → List ℕ
file_label input = drop 13 (failing (length input) (count_in input) (drop 9 input))

abbrev pub file_end : List ℕ → ℕ
file_end input = label_end (length input) (file_label input)

end_at : (w x c d : ℕ) (s t : List ℕ) → w ≡ x → c ≡ d → s ≡ t → label_end w (drop 13 (failing w c s)) ≡ label_end x (drop 13 (failing x d t))
end_at w x c d s t e f g = ap (λ k. label_end k (drop 13 (failing k c s))) e ∙ ap (λ k. label_end x (drop 13 (failing x k s))) f ∙ ap (λ k. label_end x (drop 13 (failing x d k))) g

same_file : (w x a b m n c d : ℕ) (s t : List ℕ) → w ≡ x → a ≡ b → m ≡ n → c ≡ d → s ≡ t → with_records w (policy_named a) m (read_records w c s) ≡ with_records x (policy_named b) n (read_records x d t)
same_file w x a b m n c d s t e1 e2 e3 e4 e5 =
    ap (λ k. with_records k (policy_named a) m (read_records k c s)) e1 ∙ ap (λ k. with_records x (policy_named k) m (read_records x c s)) e2 ∙ ap (λ k. with_records x (policy_named b) k (read_records x c s)) e3
    ∙ ap (λ k. with_records x (policy_named b) n (read_records x k s)) e4 ∙ ap (λ k. with_records x (policy_named b) n (read_records x d k)) e5

pub judging_grows : (input more : List ℕ) → JudgingGrows (file_end (input ++ more)) (length input) more (judging input) (judging (input ++ more))
judging_grows input more = go (header_fault (length input) input) (header_fault (length (input ++ more)) (input ++ more)) refl (header_grows (file_end (input ++ more)) input more)
  where
    -- the header of the longer input is right, and the shorter one ends within it
    cut_short : (p : Option FileFault) → header_fault (length (input ++ more)) (input ++ more) ≡ p → length input < 9 → HeadLater (file_end (input ++ more)) (length input) p → Comes (file_end (input ++ more)) (length input) (with_header (input ++ more) p)
    cut_short (Some g) e short later = later
    cut_short None e short later =
        let all = input ++ more in
        let n = count_in all in
        let s = drop 9 all in
        let rest : length all ≡ 9 + length s = omega (arith, length-drop 9 all, header_long all e) in
        header_cut (length input) (30 * n) (length all) (file_label all) s (policy_named (get_or all 5 0)) (get_or all 6 0) (read_records (length all) n s) (header_named (length all) all e) short rest
        (records_placed (length all) n s (omega arith))

    whole : 9 ≤ length input → JudgingGrows (file_end (input ++ more)) (length input) more (with_header input None) (with_header (input ++ more) None)
    whole long =
        let l = length input in
        let all = input ++ more in
        let n = count_in input in
        let s = drop 9 input in
        let m = get_or input 6 0 in
        let at = λ (i : ℕ) (h : i < 9). get_or_append_left input more 0 i (omega arith) in
        let count : count_in all ≡ n = omega (arith, at 7 (omega arith), at 8 (omega arith)) in
        let rest = drop-append-le 9 input more long in
        let same = same_file (length all) (l + length more) (get_or all 5 0) (get_or input 5 0) (get_or all 6 0) m (count_in all) n (drop 9 all) (s ++ more) (length-append input more) (at 5 (omega arith)) (at 6 (omega arith)) count rest in
        let end = end_at (length all) (l + length more) (count_in all) n (drop 9 all) (s ++ more) (length-append input more) count rest in
        let fits : length s ≤ l = omega (arith, length-drop 9 input) in
        subst (λ k. JudgingGrows k l more (with_header input None) (with_header all None)) (sym end)
        (subst (JudgingGrows (label_end (l + length more) (drop 13 (failing (l + length more) n (s ++ more)))) l more (with_header input None)) (sym same)
        (with_records_grows l (30 * n) more (file_label input) (drop 13 (failing (l + length more) n (s ++ more))) s (policy_named (get_or input 5 0)) m (read_records l n s) (read_records (l + length more) n (s ++ more)) (omega arith) fits
        (records_placed l n s fits) (records_grow l n more s fits)))

    go : (o p : Option FileFault) → header_fault (length (input ++ more)) (input ++ more) ≡ p → HeadGrows (file_end (input ++ more)) (length input) o p
        → JudgingGrows (file_end (input ++ more)) (length input) more (with_header input o) (with_header (input ++ more) p)
    go None p e (long, is) = subst (λ q. JudgingGrows (file_end (input ++ more)) (length input) more (with_header input None) (with_header (input ++ more) q)) (sym is) (whole long)
    go (Some f) p e (inl (is, short, later)) = subst (λ g. FaultGrows (file_end (input ++ more)) (length input) g (with_header (input ++ more) p)) (sym is) (refl, cut_short p e short later)
    go (Some f) p e (inr (is, long)) = subst (λ q. FaultGrows (file_end (input ++ more)) (length input) f (with_header (input ++ more) q)) (sym is) (stays f (file_end (input ++ more)) (length input) long)

-- an input that is cut has room for fewer than 65,536 records of 30 bytes
pub cut_is_short : (input : List ℕ) (p : ℕ) → AreBytes input → judging input ≡ Err (cut p) → length input < 9 + 30 * 2 ^ 16
cut_is_short input p b e = go (header_fault (length input) input) (header_fault (length (input ++ [])) (input ++ [])) (header_grows 0 input []) e
  where
    in_records : (n : ℕ) (o : Option Policy) (r : Run) → n < 2 ^ 16 → 9 ≤ length input → Placed (30 * n) (length input) (drop 13 (failing (length input) n (drop 9 input))) (drop 9 input) r → with_records (length input) o (get_or input 6 0) r ≡ Err (cut p) → length input < 9 + 30 * 2 ^ 16
    in_records n None r few long h q = absurd cc
    in_records n (Some y) (Ok x) few long h q = end (eqb (length x.1) 0) q
      where
        end : (t : Bool) → ◌≡◌ {A = Judged} (cond t (Ok (record { policy = y; processors = get_or input 6 0; records = x.0 })) (Err (Record (Bytes (Trailing (place_in (length input) x.1)))))) (Err (cut p)) → length input < 9 + 30 * 2 ^ 16
        end true k = absurd cc
        end false k = absurd cc
    in_records n (Some y) (Err (Bytes f)) few long h q = omega (arith, h.1, length-drop 9 input)
    in_records n (Some y) (Err (Tag at)) few long h q = absurd cc
    in_records n (Some y) (Err (Label at)) few long h q = absurd cc

    go : (o q : Option FileFault) → HeadGrows 0 (length input) o q → with_header input o ≡ Err (cut p) → length input < 9 + 30 * 2 ^ 16
    go None q (long, is) k =
        let n = count_in input in
        let few : n < 2 ^ 16 = omega (arith, b 7 0 (omega arith), b 8 0 (omega arith)) in
        in_records n (policy_named (get_or input 5 0)) (read_records (length input) n (drop 9 input)) few long (records_placed (length input) n (drop 9 input) (omega (arith, length-drop 9 input))) k
    go (Some f) q (inl (is, short, later)) k = omega arith
    go (Some f) q (inr (is, long)) k = let same : f ≡ cut p = cc in absurd (subst (λ g. Long g 0 (length input)) same long)

-- the label of a fault belongs to an admission, and ends where its length says
pub label_ends : (input : List ℕ) (p : ℕ) → judging input ≡ Err (Record (Label p)) → EndsLabel input p (file_end input)
label_ends input p e = go (header_fault (length input) input) refl e
  where
    fault : (o : Option Policy) (r : Run) → with_records (length input) o (get_or input 6 0) r ≡ Err (Record (Label p)) → r ≡ Err (Label p)
    fault None r k = absurd cc
    fault (Some y) (Err f) k = cc
    fault (Some y) (Ok x) k = end (eqb (length x.1) 0) k
      where
        end : (t : Bool) → ◌≡◌ {A = Judged} (cond t (Ok (record { policy = y; processors = get_or input 6 0; records = x.0 })) (Err (Record (Bytes (Trailing (place_in (length input) x.1)))))) (Err (Record (Label p))) → ◌≡◌ {A = Run} (Ok x) (Err (Label p))
        end true h = absurd cc
        end false h = absurd cc

    -- where the input is bytes, a record begins behind what stands before the one that can't be read
    behind_records : (o : Option Policy) → policy_named (get_or input 5 0) ≡ o → is_some o ≡ true → header_fault (length input) input ≡ None → read_records (length input) (count_in input) (drop 9 input) ≡ Err (Label p)
        → (front : List ℕ) → input ≡ front ++ failing (length input) (count_in input) (drop 9 input) → AreBytes input → BeginsRecord input (length front)
    behind_records None named some right h front whole b = absurd cc
    behind_records (Some y) named some right h front whole b =
        let begun = record_begins input y (Label p) b right named h in
        let u = failing (length input) (count_in input) (drop 9 input) in
        let same : length begun.front ≡ length front = omega (arith, ap length begun.bytes, length-append begun.front begun.rest, ap length begun.its_rest, ap length whole, length-append front u) in
        subst (BeginsRecord input) same begun.begins

    found : (u front : List ℕ) → input ≡ front ++ u → (AreBytes input → BeginsRecord input (length front)) → get_or u 0 0 ≡ 65 → length input ≤ p + length (drop 13 u) → p < label_end (length input) (drop 13 u) → label_end (length input) (drop 13 u) ≤ length input → EndsLabel input p (label_end (length input) (drop 13 u))
    found u front whole begins admits before in_label in_input =
        let l = length input in
        let long : l ≡ length front + length u = ap length whole ∙ length-append front u in
        let less : 13 ≤ length u = omega (arith, length-drop 13 u) in
        let at = λ (n k : ℕ) (h : length front + n ≡ k). ap (λ x. get_or x k 0) whole ∙ ap (λ i. get_or (front ++ u) i 0) (sym h) ∙ get_or-append-add front u n 0 in
        let size : get_or (drop 13 u) 0 0 ≡ get_or input (length front + 13) 0 = get_or-drop 13 u 0 0 ∙ sym (at 13 (length front + 13) refl) in
        let place : place_in l (drop 13 u) + 1 ≡ length front + 14 = omega (arith, length-drop 13 u) in
        record {
          start = length front;
          begins = begins;
          admission = at 0 (length front) (omega arith) ∙ admits;
          label = omega (arith, length-drop 13 u);
          fault = in_label;
          text = ap (λ k. k + text_length (get_or (drop 13 u) 0 0)) place ∙ ap (λ k. length front + 14 + text_length k) size;
        }

    records : read_records (length input) (count_in input) (drop 9 input) ≡ Err (Label p) → header_fault (length input) input ≡ None → EndsLabel input p (file_end input)
    records h right =
        let l = length input in
        let n = count_in input in
        let s = drop 9 input in
        let fits : length s ≤ l = omega (arith, length-drop 9 input) in
        let u = failing l n s in
        let f = failing_admits l n p s fits h in
        let placed = subst (Placed (30 * n) l (drop 13 u) s) h (records_placed l n s fits) in
        let whole = sym (take-append-drop 9 input) ∙ ap (λ x. take 9 input ++ x) f.its_end.1 ∙ sym (append_assoc (take 9 input) f.its_end.0 u) in
        let begins = behind_records (policy_named (get_or input 5 0)) refl (header_named l input right) right h (take 9 input ++ f.its_end.0) whole in
        found u (take 9 input ++ f.its_end.0) whole begins f.admission placed.1 placed.2 placed.3

    never : (f : FileFault) → f ≡ Record (Label p) → (o : Option FileFault) → HeadGrows 0 (length input) (Some f) o → ⊥
    never f same o (inl (is, short, later)) = absurd cc
    never f same o (inr (is, long)) = let h = subst (λ g. Long g 0 (length input)) same long in omega (arith, h.0)

    go : (o : Option FileFault) → header_fault (length input) input ≡ o → with_header input o ≡ Err (Record (Label p)) → EndsLabel input p (file_end input)
    go (Some f) h k = absurd (never f (let same : f ≡ Record (Label p) = cc in same) _ (subst (λ o. HeadGrows 0 (length input) o (header_fault (length (input ++ [])) (input ++ []))) h (header_grows 0 input [])))
    go None h k = records (fault (policy_named (get_or input 5 0)) (read_records (length input) (count_in input) (drop 9 input)) k) h
