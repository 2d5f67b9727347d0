-- The bytes of a file are bytes.
use Rattle.std.proofs.Common.{◌≡◌, ℕ, ◌/◌, ◌%◌, ◌^◌, ◌<◌, true, ltb, leb, List, [], ◌∷◌, ◌++◌, length, refl, arith}
use Rattle.std.specs.List.{list_all}
use Rattle.std.proofs.lemmas.List.Elements.{All-append, All-cons, All-nil}
use Rattle.std.proofs.lemmas.Bool.{and_parts, ltb-true, leb-true}
use Rattle.preferences.specs.declared.policy.Policy.{Policy}
use Rattle.preferences.specs.declared.policy.Policy.TheVariants.{First, Best, Worst}
use Rattle.preferences.specs.Policies.{letter_of}
use Rattle.rackfile.specs.Records.{Seen, admits, withdraws, printable, length_allowed}
use Rattle.rackfile.specs.Files.{processors_allowed}
use Rattle.rackfile.specs.Format.{half, word, header_bytes, record_bytes, records_bytes, file_bytes, record_allowed, all_allowed}
use Rattle.rackfile.specs.Exact.{AreBytes}
use Rattle.rackfile.specs.FaultLaws.{FileReadsBack}
use Rattle.rackfile.proofs.Standing.{reads}

byte : (b : ℕ) (s : List ℕ) → b < 256 → AreBytes s → AreBytes (b ∷ s)
byte b s h r = All-cons (λ z. z < 256) b s h r

none : AreBytes []
none = All-nil (λ z. z < 256)

both : (s t : List ℕ) → AreBytes s → AreBytes t → AreBytes (s ++ t)
both s t a b = All-append (λ z. z < 256) s t a b

half_are : (n : ℕ) → n < 2 ^ 16 → AreBytes (half n)
half_are n h = byte (n / 256) (n % 256 ∷ []) (omega arith) (byte (n % 256) [] (omega arith) none)

word_are : (n : ℕ) → ltb n (2 ^ 32) ≡ true → AreBytes (word n)
word_are n h =
    let small = ltb-true n (2 ^ 32) h in
    let last = byte (n % 256) [] (omega arith) none in
    let third = byte (n / 256 % 256) (n % 256 ∷ []) (omega arith) last in
    let second = byte (n / 65536 % 256) (n / 256 % 256 ∷ (n % 256 ∷ [])) (omega arith) third in
    byte (n / 16777216) (n / 65536 % 256 ∷ (n / 256 % 256 ∷ (n % 256 ∷ []))) (omega arith) second

letter_is : (p : Policy) → letter_of p < 256
letter_is First = omega arith
letter_is Best = omega arith
letter_is Worst = omega arith

label_are : (l : List ℕ) → list_all printable l ≡ true → AreBytes l
label_are [] h = none
label_are (b ∷ l) h =
    let p = and_parts (printable b) (list_all printable l) h in
    let top = leb-true b 126 (and_parts (leb 33 b) (leb b 126) p.0).1 in
    byte b l (omega arith) (label_are l p.1)

header_are : (p : Policy) (m n : ℕ) → processors_allowed m ≡ true → n < 2 ^ 16 → AreBytes (header_bytes p m n)
header_are p m n h few =
    let most = leb-true m 16 (and_parts (leb 1 m) (leb m 16) h).1 in
    let limits = byte (letter_of p) (m ∷ half n) (letter_is p) (byte m (half n) (omega arith) (half_are n few)) in
    let version = both (half 1) (letter_of p ∷ (m ∷ half n)) (half_are 1 (omega arith)) limits in
    let mark : AreBytes (82 ∷ (65 ∷ (75 ∷ []))) = byte 82 (65 ∷ (75 ∷ [])) (omega arith) (byte 65 (75 ∷ []) (omega arith) (byte 75 [] (omega arith) none)) in
    both (82 ∷ (65 ∷ (75 ∷ []))) (half 1 ++ (letter_of p ∷ (m ∷ half n))) mark version

record_are : (v : Seen) → record_allowed v ≡ true → AreBytes (record_bytes v)
record_are (withdraws n) a = byte 87 (word n) (omega arith) (word_are n a)
record_are (admits n c t l place) a =
    let b = and_parts (ltb n (2 ^ 32)) _ a in
    let d = and_parts (ltb c (2 ^ 32)) _ b.1 in
    let f = and_parts (ltb t (2 ^ 32)) _ d.1 in
    let g = and_parts (length_allowed (length l)) _ f.1 in
    let most = leb-true (length l) 16 (and_parts (leb 1 (length l)) (leb (length l) 16) g.0).1 in
    let named = byte (length l) l (omega arith) (label_are l g.1) in
    let timed = both (word c) (word t ++ (length l ∷ l)) (word_are c d.0) (both (word t) (length l ∷ l) (word_are t f.0) named) in
    byte 65 (word n ++ (word c ++ (word t ++ (length l ∷ l)))) (omega arith) (both (word n) (word c ++ (word t ++ (length l ∷ l))) (word_are n b.0) timed)

records_are : (vs : List Seen) → all_allowed vs ≡ true → AreBytes (records_bytes vs)
records_are [] a = none
records_are (v ∷ vs) a =
    let p = and_parts (record_allowed v) (all_allowed vs) a in
    both (record_bytes v) (records_bytes vs) (record_are v p.0) (records_are vs p.1)

pub file_reads_back : FileReadsBack
file_reads_back f m few allowed placed short = (
  both (header_bytes f.policy f.processors (length f.records)) (records_bytes f.records) (header_are f.policy f.processors (length f.records) m few) (records_are f.records allowed),
  reads (file_bytes f) f (record { bytes = refl; short = short; processors = m; few = few; allowed = allowed; places = placed }),
)
