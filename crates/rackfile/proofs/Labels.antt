-- A label stands in the input at its place.
use Rattle.std.proofs.Common.{◌≡◌, ℕ, ◌+◌, true, eqb, List, [], ◌∷◌, ◌++◌, All, length, take, drop, sym, refl, ap, ◌∙◌, arith}
use Rattle.std.proofs.lemmas.List.{append_assoc, length-append, take_at, drop_at}
use Rattle.std.proofs.lemmas.List.Elements.{All-cons, All-nil}
use Rattle.std.proofs.lemmas.Bool.{and_parts, eqb-true}
use Rattle.rackfile.specs.Records.{Seen, admits, withdraws}
use Rattle.rackfile.specs.Format.{word, header_bytes, record_bytes, records_bytes, all_placed}
use Rattle.rackfile.specs.Exact.{Shows, LabelsAreThere}

there : (input front : List ℕ) (at : ℕ) (vs : List Seen) → length front ≡ at → input ≡ front ++ records_bytes vs → all_placed at vs ≡ true → All (Shows input) vs
there input front at [] l e p = All-nil (Shows input)
there input front at (withdraws n ∷ vs) l e p =
    All-cons (Shows input) (withdraws n) vs tt (there input (front ++ record_bytes (withdraws n)) (at + 5) vs (omega (arith, length-append front (record_bytes (withdraws n)))) (e ∙ sym (append_assoc front (record_bytes (withdraws n)) (records_bytes vs))) p)
there input front at (admits n c t l place ∷ vs) long e p =
    let h = and_parts (eqb place (at + 14)) (all_placed (at + 14 + length l) vs) p in
    let is = eqb-true place (at + 14) h.0 in
    let bytes = record_bytes (admits n c t l place) in
    let before = 65 ∷ (word n ++ (word c ++ (word t ++ (length l ∷ [])))) in
    let shape : bytes ++ records_bytes vs ≡ before ++ (l ++ records_bytes vs) = refl in
    let whole : input ≡ (front ++ before) ++ (l ++ records_bytes vs) = e ∙ sym (append_assoc front before (l ++ records_bytes vs)) in
    let k : length (front ++ before) ≡ place = omega (arith, length-append front before, is) in
    let label : take (length l) (drop place input) ≡ l = ap (λ x. take (length l) (drop place x)) whole ∙ ap (take (length l)) (drop_at (front ++ before) (l ++ records_bytes vs) place k) ∙ take_at l (records_bytes vs) (length l) refl in
    All-cons (Shows input) (admits n c t l place) vs label (there input (front ++ bytes) (at + 14 + length l) vs (omega (arith, length-append front bytes)) (e ∙ sym (append_assoc front bytes (records_bytes vs))) h.1)

pub labels_are_there : LabelsAreThere
labels_are_there input f s = there input (header_bytes f.policy f.processors (length f.records)) 9 f.records refl s.bytes s.places
