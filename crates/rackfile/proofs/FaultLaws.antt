-- The laws above the faults.
use Rattle.std.proofs.Common.{◌≡◌, ◌⊎◌, ◌≢◌, ℕ, zero, suc, ◌+◌, ◌-◌, ◌*◌, ◌^◌, ◌<◌, ◌≤◌, Bool, true, false, cond, List, [], ◌∷◌, ◌++◌, length, take, drop, replicate, Ok, Err, sym, refl, ap, ◌∙◌, subst, inl, inr, arith}
use Rattle.std.proofs.lemmas.List.{length-append, length-drop, length-take, length-take-le, length-replicate, take-append-drop, take-take, take_all}
use Rattle.std.proofs.Math.Seq.{take-append-add}
use Rattle.std.proofs.lemmas.List.Elements.{All-append, All-take, All-replicate}
use Rattle.std.proofs.lemmas.Bool.{ltb-true, ltb-false, le-ltb, lt-ltb, cond-true, cond-false}
use Rattle.rackfile.specs.declared.fault.BytesFault.TheVariants.{TooLong, Cut, Trailing}
use Rattle.rackfile.specs.declared.fault.RecordFault.TheVariants.{Bytes, Tag, Label}
use Rattle.rackfile.specs.declared.fault.FileFault.{FileFault}
use Rattle.rackfile.specs.declared.fault.FileFault.TheVariants.{Record, Mark, Version, Policy, Processors}
use Rattle.rackfile.specs.Faults.{number_of, place_of}
use Rattle.rackfile.specs.Reading.{too_long}
use Rattle.rackfile.specs.Files.{File, cut, judging, reading}
use Rattle.rackfile.specs.Format.{Stands}
use Rattle.rackfile.specs.Exact.{AreBytes}
use Rattle.rackfile.specs.FaultLaws.{IsShown, FaultsStay, EndsLabel, EndsField, FaultsShow, HasFault, TrailingExactly, Settled, CouldGoOn, CutExactly, TooLongExactly}
use Rattle.rackfile.proofs.Judging.{Long, Short, Judged, Behind, FaultGrows, JudgingGrows, file_end, judging_grows, cut_is_short, label_ends}
use Rattle.rackfile.proofs.Standing.{stands, reads}

reading_judges : (input : List ℕ) → length input ≤ 65536 → reading input ≡ judging input
reading_judges input h = cond-false (too_long input) _ (judging input) (le-ltb 65536 (length input) h)

-- an input with a fault other than 11 is judged so
pub judged_so : (input : List ℕ) (f : FileFault) → reading input ≡ Err f → (number_of f ≡ 11 → ⊥) → (judging input ≡ Err f) × (length input ≤ 65536)
judged_so input f e other = go (too_long input) refl e
  where
    go : (t : Bool) → too_long input ≡ t → ◌≡◌ {A = Judged} (cond t (Err (Record (Bytes TooLong))) (judging input)) (Err f) → (judging input ≡ Err f) × (length input ≤ 65536)
    go true q h = let same : Record (Bytes TooLong) ≡ f = cc in absurd (other (sym (ap number_of same)))
    go false q h = (h, ltb-false 65536 (length input) q)

-- a judgement and what it comes to with bytes behind
grown : (input more : List ℕ) (r q : Judged) → judging input ≡ r → judging (input ++ more) ≡ q → JudgingGrows (file_end (input ++ more)) (length input) more r q
grown input more r q e k = subst (JudgingGrows (file_end (input ++ more)) (length input) more r) k (subst (λ x. JudgingGrows (file_end (input ++ more)) (length input) more x (judging (input ++ more))) e (judging_grows input more))

stay : (f : FileFault) (end l : ℕ) (r : Judged) → FaultGrows end l f r → 13 ≤ number_of f → (r ≡ Err f) × Long f end l
stay (Record (Bytes TooLong)) end l r g h = absurd g
stay (Record (Bytes (Cut p))) end l r g h = absurd (omega arith)
stay (Record (Bytes (Trailing p))) end l r g h = g
stay (Record (Tag p)) end l r g h = g
stay (Record (Label p)) end l r g h = g
stay Mark end l r g h = g
stay Version end l r g h = g
stay Policy end l r g h = g
stay Processors end l r g h = g

judged_stays : (input more : List ℕ) (f : FileFault) → judging input ≡ Err f → 13 ≤ number_of f → judging (input ++ more) ≡ Err f
judged_stays input more f e h = (stay f (file_end (input ++ more)) (length input) (judging (input ++ more)) (grown input more (Err f) (judging (input ++ more)) e refl) h).0

pub faults_stay : FaultsStay
faults_stay input more f e low high short = reading_judges (input ++ more) short ∙ judged_stays input more f (judged_so input f e (λ k. omega arith)).0 low

-- The front of an input that has a fault of 13 to 17: it is cut, or has the fault, or is a file.

front_fault : (g f : FileFault) (end k : ℕ) → FaultGrows end k g (Err f) → ((g ≡ cut k) × Short f end k) ⊎ ((g ≡ f) × Long f end k)
front_fault (Record (Bytes TooLong)) f end k h = absurd h
front_fault (Record (Bytes (Cut p))) f end k h = inl (ap cut h.0, h.1)
front_fault (Record (Bytes (Trailing p))) f end k h = let e : Record (Bytes (Trailing p)) ≡ f = cc in inr (e, subst (λ x. Long x end k) e h.1)
front_fault (Record (Tag p)) f end k h = let e : Record (Tag p) ≡ f = cc in inr (e, subst (λ x. Long x end k) e h.1)
front_fault (Record (Label p)) f end k h = let e : Record (Label p) ≡ f = cc in inr (e, subst (λ x. Long x end k) e h.1)
front_fault Mark f end k h = let e : Mark ≡ f = cc in inr (e, subst (λ x. Long x end k) e h.1)
front_fault Version f end k h = let e : Version ≡ f = cc in inr (e, subst (λ x. Long x end k) e h.1)
front_fault Policy f end k h = let e : Policy ≡ f = cc in inr (e, subst (λ x. Long x end k) e h.1)
front_fault Processors f end k h = let e : Processors ≡ f = cc in inr (e, subst (λ x. Long x end k) e h.1)

abbrev Front : List ℕ → FileFault → ℕ → Type 0
Front input f k =
    ((judging (take k input) ≡ Err (cut k)) × Short f (file_end input) k)
    ⊎ (((judging (take k input) ≡ Err f) × Long f (file_end input) k)
    ⊎ ((g : File) × (judging (take k input) ≡ Ok g) × (f ≡ Record (Bytes (Trailing k)))))

front : (input : List ℕ) (f : FileFault) (k : ℕ) → judging input ≡ Err f → k ≤ length input → Front input f k
front input f k e h = go (judging (take k input)) refl
  where
    it : judging (take k input ++ drop k input) ≡ Err f
    it = ap judging (take-append-drop k input) ∙ e

    behind : (more : List ℕ) (g : File) → Behind k more g (Err f) → f ≡ Record (Bytes (Trailing k))
    behind [] g b = absurd cc
    behind (a ∷ more) g b = cc

    go : (r : Judged) → judging (take k input) ≡ r → Front input f k
    go (Ok g) q =
        let long = length-take-le k input h in
        inr (inr (g, q, behind (drop k input) g (subst (λ l. Behind l (drop k input) g (Err f)) long (grown (take k input) (drop k input) (Ok g) (Err f) q it))))
    go (Err g) q =
        let long = length-take-le k input h in
        let end = ap file_end (take-append-drop k input) in
        elim (front_fault g f (file_end input) k (subst (λ e. FaultGrows e k g (Err f)) end (subst (λ l. FaultGrows (file_end (take k input ++ drop k input)) l g (Err f)) long (grown (take k input) (drop k input) (Err g) (Err f) q it)))) [
          | inl x ↦ inl (q ∙ ap (λ z. Err z) x.0, x.1)
          | inr x ↦ inr (inl (q ∙ ap (λ z. Err z) x.0, x.1))
        ]

longer : (input : List ℕ) (f : FileFault) (j k : ℕ) → j ≤ k → 13 ≤ number_of f → judging (take j input) ≡ Err f → judging (take k input) ≡ Err f
longer input f j k le low e =
    let again = take-take j k input le in
    let it = judged_stays (take j (take k input)) (drop j (take k input)) f (ap judging again ∙ e) low in
    sym (ap judging (take-append-drop j (take k input))) ∙ it

not_cut : (f : FileFault) (k : ℕ) → ◌≡◌ {A = Judged} (Err f) (Err (cut k)) → 13 ≤ number_of f → ⊥
not_cut f k q low = let same : f ≡ cut k = cc in let n = ap number_of same in omega arith

-- the least front that has the fault
record First (input : List ℕ) (f : FileFault) : Type 0 where
  end : ℕ
  within : end ≤ length input
  there : judging (take end input) ≡ Err f
  before : (k : ℕ) → k < end → judging (take k input) ≡ Err (cut k)

first : (input : List ℕ) (f : FileFault) → judging input ≡ Err f → IsShown f → (k : ℕ) → k ≤ length input → judging (take k input) ≡ Err f → First input f
first input f e shown zero h it = record { end = 0; within = h; there = it; before = λ k l. absurd (omega arith) }
first input f e shown (suc k) h it = go (front input f k e (omega arith)) (λ q. first input f e shown k (omega arith) q)
  where
    below : judging (take k input) ≡ Err (cut k) → (j : ℕ) → j < suc k → Front input f j → judging (take j input) ≡ Err (cut j)
    below c j l (inl x) = x.0
    below c j l (inr (inl x)) = absurd (not_cut f k (sym (longer input f j k (omega arith) shown.0 x.0) ∙ c) shown.0)
    below c j l (inr (inr x)) = absurd (let n = ap number_of x.2 in let high = shown.1 in omega arith)

    go : Front input f k → (judging (take k input) ≡ Err f → First input f) → First input f
    go (inl x) again = record { end = suc k; within = h; there = it; before = λ j l. below x.0 j l (front input f j e (omega arith)) }
    go (inr (inl x)) again = again x.0
    go (inr (inr x)) again = absurd (let n = ap number_of x.2 in let high = shown.1 in omega arith)

ends : (input : List ℕ) (f : FileFault) (end : ℕ) → judging input ≡ Err f → IsShown f → Long f (file_end input) end → (0 < end → Short f (file_end input) (end - 1)) → EndsField input f end
ends input (Record (Bytes TooLong)) end e h long short = absurd long
ends input (Record (Bytes (Cut p))) end e h long short = absurd long
ends input (Record (Bytes (Trailing p))) end e h long short = absurd (omega (arith, h.1))
ends input (Record (Tag p)) end e h long short = let s = short (omega arith) in omega arith
ends input (Record (Label p)) end e h long short =
    let s = short (omega (arith, long.0, long.1)) in
    let same : file_end input ≡ end = omega (arith, long.1) in
    subst (EndsLabel input p) same (label_ends input p e)
ends input Mark end e h long short = let s = short (omega arith) in omega arith
ends input Version end e h long short = let s = short (omega arith) in omega arith
ends input Policy end e h long short = let s = short (omega arith) in omega arith
ends input Processors end e h long short = let s = short (omega arith) in omega arith

pub faults_show : FaultsShow
faults_show input f e shown =
    let j = judged_so input f e (λ k. let low = shown.0 in omega arith) in
    let one = first input f j.0 shown (length input) (omega arith) (ap judging (take_all (length input) input (omega arith)) ∙ j.0) in
    let short = λ (k : ℕ) (le : k ≤ length input). let long = length-take-le k input le in reading_judges (take k input) (omega (arith, j.1)) in (
      one.end,
      record {
        field = ends input f one.end j.0 shown (is_long one j.0) (λ pos. is_short one j.0 pos);
        within = one.within;
        behind = λ k le. behind one j.0 j.1 k le;
        before = λ k l. short k (omega (arith, one.within)) ∙ one.before k l;
      },
    )
  where
    is_long : (one : First input f) → judging input ≡ Err f → Long f (file_end input) one.end
    is_long one e = go (front input f one.end e one.within)
      where
        go : Front input f one.end → Long f (file_end input) one.end
        go (inl x) = absurd (not_cut f one.end (sym one.there ∙ x.0) shown.0)
        go (inr (inl x)) = x.1
        go (inr (inr x)) = absurd (let n = ap number_of x.2 in let high = shown.1 in omega arith)

    is_short : (one : First input f) → judging input ≡ Err f → 0 < one.end → Short f (file_end input) (one.end - 1)
    is_short one e pos = go (front input f (one.end - 1) e (omega (arith, one.within)))
      where
        go : Front input f (one.end - 1) → Short f (file_end input) (one.end - 1)
        go (inl x) = x.1
        go (inr (inl x)) = absurd (not_cut f (one.end - 1) (sym x.0 ∙ one.before (one.end - 1) (omega arith)) shown.0)
        go (inr (inr x)) = absurd (let n = ap number_of x.2 in let high = shown.1 in omega arith)

    behind : (one : First input f) → judging input ≡ Err f → length input ≤ 65536 → (k : ℕ) → one.end ≤ k → reading (take k input) ≡ Err f
    behind one e short k le = reading_judges (take k input) (omega (arith, length-take k input)) ∙ longer input f one.end k le shown.0 one.there

-- 17: the bytes before it are a file.
trailing_is : (f : FileFault) → number_of f ≡ 17 → f ≡ Record (Bytes (Trailing (place_of f)))
trailing_is (Record (Bytes TooLong)) h = absurd (omega arith)
trailing_is (Record (Bytes (Cut p))) h = absurd (omega arith)
trailing_is (Record (Bytes (Trailing p))) h = refl
trailing_is (Record (Tag p)) h = absurd (omega arith)
trailing_is (Record (Label p)) h = absurd (omega arith)
trailing_is Mark h = absurd (omega arith)
trailing_is Version h = absurd (omega arith)
trailing_is Policy h = absurd (omega arith)
trailing_is Processors h = absurd (omega arith)

-- an input that is judged 17 at a place has a file before it
file_before : (input : List ℕ) (p : ℕ) → judging input ≡ Err (Record (Bytes (Trailing p))) → (p < length input) × (g : File) × (judging (take p input) ≡ Ok g)
file_before input p e =
    let f = Record (Bytes (Trailing p)) in
    let less = (stay f (file_end (input ++ [])) (length input) _ (grown input [] (Err f) (judging (input ++ [])) e refl) (omega arith)).1 in
    let found = go (front input f p e (omega arith)) in
    (less, found.0, found.1)
  where
    go : Front input (Record (Bytes (Trailing p))) p → (g : File) × (judging (take p input) ≡ Ok g)
    go (inl x) = absurd (omega (arith, x.1))
    go (inr (inl x)) = absurd (omega (arith, x.1))
    go (inr (inr x)) = (x.0, x.1)

trailing_behind : (input : List ℕ) (p : ℕ) (g : File) → p < length input → judging (take p input) ≡ Ok g → judging input ≡ Err (Record (Bytes (Trailing p)))
trailing_behind input p g less e = sym (ap judging (take-append-drop p input)) ∙ go (drop p input) refl
  where
    long : length (take p input) ≡ p
    long = length-take-le p input (omega arith)

    go : (more : List ℕ) → drop p input ≡ more → judging (take p input ++ drop p input) ≡ Err (Record (Bytes (Trailing p)))
    go [] q = absurd (omega (arith, length-drop p input, ap length q))
    go (a ∷ more) q =
        subst (λ l. judging (take p input ++ drop p input) ≡ Err (Record (Bytes (Trailing l)))) long
        (subst (λ x. Behind (length (take p input)) x g (judging (take p input ++ drop p input))) q (grown (take p input) (drop p input) (Ok g) (judging (take p input ++ drop p input)) e refl))

pub trailing_exactly : TrailingExactly
trailing_exactly input place b short = (to, from)
  where
    front_short : place < length input → length (take place input) ≤ 65536
    front_short less = omega (arith, length-take-le place input (omega arith))

    to : HasFault input 17 place → (place < length input) × (g : File) × Stands (take place input) g
    to (f, e, n, p) =
        let same = trailing_is f n ∙ ap (λ k. Record (Bytes (Trailing k))) p in
        let j = (judged_so input f e (λ k. omega arith)).0 ∙ ap (λ x. Err x) same in
        let found = file_before input place j in
        (found.0, found.1, stands (take place input) found.1 (All-take (λ z. z < 256) place input b) (reading_judges (take place input) (front_short found.0) ∙ found.2))

    from : (place < length input) × (g : File) × Stands (take place input) g → HasFault input 17 place
    from (less, g, s) =
        let e = sym (reading_judges (take place input) (front_short less)) ∙ reads (take place input) g s in
        (Record (Bytes (Trailing place)), reading_judges input short ∙ trailing_behind input place g less e, refl, refl)

-- 12 and 11.
pub too_long_exactly : TooLongExactly
too_long_exactly input = (λ h. above h.0 h.2 h.1, λ h. (Record (Bytes TooLong), cond-true (too_long input) _ (judging input) (lt-ltb 65536 (length input) h), refl, refl))
  where
    never : (f : FileFault) → number_of f ≡ 11 → judging input ≡ Err f → ⊥
    never f n e = go f n (grown input [] (Err f) (judging (input ++ [])) e refl)
      where
        go : (g : FileFault) → number_of g ≡ 11 → FaultGrows (file_end (input ++ [])) (length input) g (judging (input ++ [])) → ⊥
        go (Record (Bytes TooLong)) k h = h
        go (Record (Bytes (Cut p))) k h = omega arith
        go (Record (Bytes (Trailing p))) k h = omega arith
        go (Record (Tag p)) k h = omega arith
        go (Record (Label p)) k h = omega arith
        go Mark k h = omega arith
        go Version k h = omega arith
        go Policy k h = omega arith
        go Processors k h = omega arith

    above : (f : FileFault) → number_of f ≡ 11 → reading input ≡ Err f → 65536 < length input
    above f n e = go (too_long input) refl e
      where
        go : (t : Bool) → too_long input ≡ t → ◌≡◌ {A = Judged} (cond t (Err (Record (Bytes TooLong))) (judging input)) (Err f) → 65536 < length input
        go true q h = ltb-true 65536 (length input) q
        go false q h = absurd (never f n h)

cut_is : (f : FileFault) → number_of f ≡ 12 → f ≡ cut (place_of f)
cut_is (Record (Bytes TooLong)) h = absurd (omega arith)
cut_is (Record (Bytes (Cut p))) h = refl
cut_is (Record (Bytes (Trailing p))) h = absurd (omega arith)
cut_is (Record (Tag p)) h = absurd (omega arith)
cut_is (Record (Label p)) h = absurd (omega arith)
cut_is Mark h = absurd (omega arith)
cut_is Version h = absurd (omega arith)
cut_is Policy h = absurd (omega arith)
cut_is Processors h = absurd (omega arith)

judged_cut : (input : List ℕ) (place : ℕ) → HasFault input 12 place → judging input ≡ Err (cut place)
judged_cut input place (f, e, n, p) = (judged_so input f e (λ k. omega arith)).0 ∙ ap (λ x. Err x) (cut_is f n ∙ ap cut p)

at_the_end : (input : List ℕ) (place : ℕ) → HasFault input 12 place → place ≡ length input
at_the_end input place h = (grown input [] (Err (cut place)) (judging (input ++ [])) (judged_cut input place h) refl).0

-- what an input that is not cut comes to with more behind is what it came to, or 17
could_go_on : (input : List ℕ) → CouldGoOn input → judging input ≡ Err (cut (length input))
could_go_on input (more, b, settled, differs) = go (judging input) refl (judging (input ++ more)) refl settled differs
  where
    trailing : (g : File) (n : List ℕ) (r : Judged) → Behind (length input) n g r → Settled r → (r ≡ Ok g → ⊥) → ⊥
    trailing g [] r h s d = d h
    trailing g (a ∷ n) r h s d = absurd (let t = subst Settled h s in omega (arith, t.1))

    fault : (f : FileFault) (r : Judged) → FaultGrows (file_end (input ++ more)) (length input) f r → (r ≡ Err f → ⊥) → f ≡ cut (length input)
    fault (Record (Bytes TooLong)) r h d = absurd h
    fault (Record (Bytes (Cut p))) r h d = ap cut h.0
    fault (Record (Bytes (Trailing p))) r h d = absurd (d h.0)
    fault (Record (Tag p)) r h d = absurd (d h.0)
    fault (Record (Label p)) r h d = absurd (d h.0)
    fault Mark r h d = absurd (d h.0)
    fault Version r h d = absurd (d h.0)
    fault Policy r h d = absurd (d h.0)
    fault Processors r h d = absurd (d h.0)

    go : (r : Judged) → judging input ≡ r → (q : Judged) → judging (input ++ more) ≡ q → Settled (judging (input ++ more)) → judging (input ++ more) ≢ judging input → r ≡ Err (cut (length input))
    go (Ok g) e q k s d = absurd (trailing g more q (grown input more (Ok g) q e k) (subst Settled k s) (λ z. d (k ∙ z ∙ sym e)))
    go (Err f) e q k s d = ap (λ x. Err x) (fault f q (grown input more (Err f) q e k) (λ z. d (k ∙ z ∙ sym e)))

-- enough bytes of 0 behind an input that is cut
padded : (n : ℕ) (input : List ℕ) → 9 + 30 * 2 ^ 16 ≤ n → AreBytes input → judging input ≡ Err (cut (length input)) → CouldGoOn input
padded n input enough b e = go (judging (input ++ replicate n 0)) refl
  where
    zeros : AreBytes (replicate n 0)
    zeros = All-replicate (λ z. z < 256) n 0 (omega arith)

    bytes : AreBytes (input ++ replicate n 0)
    bytes = All-append (λ z. z < 256) input (replicate n 0) b zeros

    long : length (input ++ replicate n 0) ≡ length input + n
    long = length-append input (replicate n 0) ∙ ap (λ k. length input + k) (length-replicate n 0)

    with_zeros : (r : Judged) → judging (input ++ replicate n 0) ≡ r → Settled r → (r ≡ Err (cut (length input)) → ⊥) → CouldGoOn input
    with_zeros r q s d = (replicate n 0, zeros, subst Settled (sym q) s, λ z. d (sym q ∙ z ∙ e))

    file : (p : ℕ) (g : File) → length input < p → judging (take p (input ++ replicate n 0)) ≡ Ok g → CouldGoOn input
    file p g less q =
        let m = p - length input in
        let same = sym (take-append-add input (replicate n 0) m) in
        let at : length input + m ≡ p = omega arith in
        let it = ap judging (same ∙ ap (λ k. take k (input ++ replicate n 0)) at) ∙ q in
        (take m (replicate n 0), All-take (λ z. z < 256) m (replicate n 0) zeros, subst Settled (sym it) tt, λ z. let h = sym it ∙ z ∙ e in cc)

    fault : (f : FileFault) → judging (input ++ replicate n 0) ≡ Err f → FaultGrows (file_end ((input ++ replicate n 0) ++ [])) (length (input ++ replicate n 0)) f (judging ((input ++ replicate n 0) ++ [])) → Short f (file_end (input ++ replicate n 0)) (length input) → CouldGoOn input
    fault (Record (Bytes TooLong)) q g s = absurd g
    fault (Record (Bytes (Cut p))) q g s = absurd (omega (arith, cut_is_short (input ++ replicate n 0) p bytes q, long))
    fault (Record (Bytes (Trailing p))) q g s = let found = file_before (input ++ replicate n 0) p q in file p found.1 s found.2
    fault (Record (Tag p)) q g s = with_zeros (Err (Record (Tag p))) q (omega arith, omega arith) (λ z. cc)
    fault (Record (Label p)) q g s = with_zeros (Err (Record (Label p))) q (omega arith, omega arith) (λ z. cc)
    fault Mark q g s = with_zeros (Err Mark) q (omega arith, omega arith) (λ z. cc)
    fault Version q g s = with_zeros (Err Version) q (omega arith, omega arith) (λ z. cc)
    fault Policy q g s = with_zeros (Err Policy) q (omega arith, omega arith) (λ z. cc)
    fault Processors q g s = with_zeros (Err Processors) q (omega arith, omega arith) (λ z. cc)

    go : (r : Judged) → judging (input ++ replicate n 0) ≡ r → CouldGoOn input
    go (Ok g) q = with_zeros (Ok g) q tt (λ z. cc)
    go (Err f) q = fault f q (grown (input ++ replicate n 0) [] (Err f) (judging ((input ++ replicate n 0) ++ [])) q refl) (grown input (replicate n 0) (Err (cut (length input))) (Err f) e q).1

pub cut_exactly : CutExactly
cut_exactly = record {
  could_go_on = λ input b short. (
    λ h. padded (9 + 30 * 2 ^ 16) input (omega arith) b (judged_cut input (length input) h),
    λ c. (cut (length input), reading_judges input short ∙ could_go_on input c, refl, refl),
  );
  at_the_end = at_the_end;
}
