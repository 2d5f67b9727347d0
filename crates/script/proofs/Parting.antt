-- A text that is read from the left has the numbers of its fields.
use Rattle.std.proofs.Common.{◌≡◌, ℕ, ◌+◌, ◌*◌, ◌^◌, ◌<◌, ◌≤◌, ◌⊎◌, List, [], ◌∷◌, ◌++◌, length, map, Some, None, Option, sym, refl, ap, ◌∙◌, inl, inr, arith, le_refl, le_trans}
use Rattle.std.specs.List.{All, join_with_byte}
use Rattle.std.specs.Option.{unwrap_or}
use Rattle.std.specs.Char.{digit_value}
use Rattle.std.specs.Str.Parse.{AllDigits, digits_value, digits_value_after}
use Rattle.std.proofs.lemmas.Bool.{cases_eq, ne_eqb, eq-eqb}
use Rattle.std.proofs.lemmas.Bool.Decides.{nat_tests}
use Rattle.std.proofs.lemmas.Option.{none-some}
use Rattle.std.proofs.lemmas.List.{append-nil, append_assoc}
use Rattle.std.proofs.lemmas.List.Elements.{All-head, All-tail, All-cons}
use Rattle.script.specs.Fields.{with_digit, numbers_from, numbers_of}
use Rattle.script.specs.FieldLaws.{IsField, Writes, FieldsWriteNumbers}

-- the fields behind the first, each behind its space
abbrev behind : List (List ℕ) → List ℕ
behind [] = []
behind (f ∷ fs) = 32 ∷ (f ++ behind fs)

joined : (f : List ℕ) (fs : List (List ℕ)) → join_with_byte 32 (f ∷ fs) ≡ f ++ behind fs
joined f [] = sym (append-nil f)
joined f (g ∷ gs) = ap (λ (t : List ℕ). f ++ 32 ∷ t) (joined g gs)

grows : (n : ℕ) (ds : List ℕ) → n ≤ digits_value_after 10 n ds
grows n [] = le_refl n
grows n (d ∷ ds) = le_trans (omega arith) (grows (n * 10 + digit_value d) ds)

digit_taken : (n b : ℕ) → digit_value b < 10 → n * 10 + digit_value b < 2 ^ 32 → with_digit n b ≡ Some (n * 10 + digit_value b)
digit_taken n b d s = grind (arith, nat_tests)

digit_only : (n b m : ℕ) → with_digit n b ≡ Some m → (digit_value b < 10) × (n * 10 + digit_value b < 2 ^ 32) × (m ≡ n * 10 + digit_value b)
digit_only n b m e = grind (arith, nat_tests)

digit_no_space : (b : ℕ) → digit_value b < 10 → b ≡ 32 → ⊥
digit_no_space b d e = grind (arith, nat_tests)

-- what one more byte does
on_digit : (done : List ℕ) (o : Option ℕ) (b : ℕ) (bs : List ℕ) → digit_value b < 10 → unwrap_or o 0 * 10 + digit_value b < 2 ^ 32
    → numbers_from done o (b ∷ bs) ≡ numbers_from done (Some (unwrap_or o 0 * 10 + digit_value b)) bs
on_digit done None b bs d s = rw (ne_eqb b 32 (digit_no_space b d), digit_taken 0 b d s) refl
on_digit done (Some n) b bs d s = rw (ne_eqb b 32 (digit_no_space b d), digit_taken n b d s) refl

on_space : (done : List ℕ) (n b : ℕ) (bs : List ℕ) → b ≡ 32 → numbers_from done (Some n) (b ∷ bs) ≡ numbers_from (done ++ n ∷ []) None bs
on_space done n b bs e = rw (eq-eqb b 32 e) refl

space_first : (done : List ℕ) (b : ℕ) (bs : List ℕ) → b ≡ 32 → numbers_from done None (b ∷ bs) ≡ None
space_first done b bs e = rw (eq-eqb b 32 e) refl

on_other : (done : List ℕ) (o : Option ℕ) (b : ℕ) (bs : List ℕ) → (b ≡ 32 → ⊥) → with_digit (unwrap_or o 0) b ≡ None → numbers_from done o (b ∷ bs) ≡ None
on_other done None b bs h e = rw (ne_eqb b 32 h, e) refl
on_other done (Some n) b bs h e = rw (ne_eqb b 32 h, e) refl

-- fields are read as their numbers
read_digits : (done : List ℕ) (n : ℕ) (ds rest : List ℕ) → AllDigits 10 ds → digits_value_after 10 n ds < 2 ^ 32
    → numbers_from done (Some n) (ds ++ rest) ≡ numbers_from done (Some (digits_value_after 10 n ds)) rest
read_digits done n [] rest a s = refl
read_digits done n (d ∷ ds) rest a s =
    let m = n * 10 + digit_value d in
    on_digit done (Some n) d (ds ++ rest) a.0 (omega (arith, grows m ds)) ∙ read_digits done m ds rest a.1 s

read_field : (done f rest : List ℕ) → IsField f → numbers_from done None (f ++ rest) ≡ numbers_from done (Some (digits_value 10 f)) rest
read_field done [] rest h = absurd (omega (arith, h.0.0))
read_field done (d ∷ ds) rest h =
    let m = 0 * 10 + digit_value d in
    on_digit done None d (ds ++ rest) h.0.1.0 (omega (arith, grows m ds, h.1)) ∙ read_digits done m ds rest h.0.1.1 h.1

read_behind : (done : List ℕ) (n : ℕ) (fs : List (List ℕ)) → All IsField fs → numbers_from done (Some n) (behind fs) ≡ Some (done ++ n ∷ map (digits_value 10) fs)
read_behind done n [] h = refl
read_behind done n (f ∷ fs) h =
    read_field (done ++ n ∷ []) f (behind fs) (All-head IsField f fs h)
    ∙ read_behind (done ++ n ∷ []) (digits_value 10 f) fs (All-tail IsField f fs h)
    ∙ ap Some (append_assoc done (n ∷ []) (map (digits_value 10) (f ∷ fs)))

-- what was read behind the number whose digits have begun, and what was read from the front of a field
record Begun (done : List ℕ) (n : ℕ) (text r : List ℕ) : Type 0 where
  digits : List ℕ
  others : List (List ℕ)
  all : AllDigits 10 digits
  small : digits_value_after 10 n digits < 2 ^ 32
  fields : All IsField others
  parted : text ≡ digits ++ behind others
  read : r ≡ done ++ digits_value_after 10 n digits ∷ map (digits_value 10) others

record Whole (done text r : List ℕ) : Type 0 where
  first : List ℕ
  others : List (List ℕ)
  is : IsField first
  fields : All IsField others
  parted : text ≡ first ++ behind others
  read : r ≡ done ++ map (digits_value 10) (first ∷ others)

abbrev Found : List ℕ → Option ℕ → (text r : List ℕ) → Type 0
Found done None text r = Whole done text r
Found done (Some n) text r = Begun done n text r

behind_digit : (done : List ℕ) (o : Option ℕ) (b : ℕ) (bs r : List ℕ) → digit_value b < 10 → Begun done (unwrap_or o 0 * 10 + digit_value b) bs r → Found done o (b ∷ bs) r
behind_digit done None b bs r d f =
    record { first = b ∷ f.digits; others = f.others; is = ((omega arith, (d, f.all)), f.small); fields = f.fields; parted = ap (λ (t : List ℕ). b ∷ t) f.parted; read = f.read }
behind_digit done (Some n) b bs r d f =
    record { digits = b ∷ f.digits; others = f.others; all = (d, f.all); small = f.small; fields = f.fields; parted = ap (λ (t : List ℕ). b ∷ t) f.parted; read = f.read }

behind_space : (done : List ℕ) (o : Option ℕ) (b : ℕ) (bs r : List ℕ) → unwrap_or o 0 < 2 ^ 32 → b ≡ 32 → ((n : ℕ) → numbers_from (done ++ n ∷ []) None bs ≡ Some r → Whole (done ++ n ∷ []) bs r)
    → numbers_from done o (b ∷ bs) ≡ Some r → Found done o (b ∷ bs) r
behind_space done None b bs r s e next h = absurd (none-some r (sym (space_first done b bs e) ∙ h))
behind_space done (Some n) b bs r s e next h =
    let f = next n (sym (on_space done n b bs e) ∙ h) in record {
      digits = [];
      others = f.first ∷ f.others;
      all = tt;
      small = s;
      fields = All-cons IsField f.first f.others f.is f.fields;
      parted = ap (λ (c : ℕ). c ∷ bs) e ∙ ap (λ (t : List ℕ). 32 ∷ t) f.parted;
      read = f.read ∙ append_assoc done (n ∷ []) (map (digits_value 10) (f.first ∷ f.others));
    }

-- what a byte can be behind a number
abbrev Byte : ℕ → ℕ → Type 0
Byte n b = (b ≡ 32) ⊎ (((digit_value b < 10) × (n * 10 + digit_value b < 2 ^ 32)) ⊎ ((b ≡ 32 → ⊥) × (with_digit n b ≡ None)))

byte : (n b : ℕ) → Byte n b
byte n b = elim (cases_eq b 32) [ inl e ↦ inl e | inr h ↦ by_digit (with_digit n b) h refl ]
  where
    by_digit : (o : Option ℕ) → (b ≡ 32 → ⊥) → with_digit n b ≡ o → Byte n b
    by_digit None h e = inr (inr (h, e))
    by_digit (Some m) h e = let d = digit_only n b m e in inr (inl (d.0, d.1))

found : (text done : List ℕ) (o : Option ℕ) (r : List ℕ) → unwrap_or o 0 < 2 ^ 32 → numbers_from done o text ≡ Some r → Found done o text r
found [] done None r s e = absurd (none-some r e)
found [] done (Some n) r s e =
    record { digits = []; others = []; all = tt; small = s; fields = λ k d l. absurd (omega arith); parted = refl; read = sym (ap (λ (o : Option (List ℕ)). unwrap_or o []) e) }
found (b ∷ bs) done o r s e = elim (byte (unwrap_or o 0) b) [
  | inl space ↦ behind_space done o b bs r s space (λ n h. found bs (done ++ n ∷ []) None r (omega arith) h) e
  | inr (inl d) ↦ let m = unwrap_or o 0 * 10 + digit_value b in behind_digit done o b bs r d.0 (found bs done (Some m) r d.1 (sym (on_digit done o b bs d.0 d.1) ∙ e))
  | inr (inr h) ↦ absurd (none-some r (sym (on_other done o b bs h.0 h.1) ∙ e))
]

reads : (text ns : List ℕ) → numbers_of text ≡ Some ns → Writes text ns
reads text ns e =
    let w : Whole [] text ns = found text [] None ns (omega arith) e in
    (w.first ∷ w.others, omega arith, All-cons IsField w.first w.others w.is w.fields, w.parted ∙ sym (joined w.first w.others), w.read)

read : (text ns : List ℕ) (fs : List (List ℕ)) → 0 < length fs → All IsField fs → text ≡ join_with_byte 32 fs → ns ≡ map (digits_value 10) fs → numbers_of text ≡ Some ns
read text ns [] h a e m = absurd (omega arith)
read text ns (f ∷ fs) h a e m =
    ap numbers_of (e ∙ joined f fs) ∙ read_field [] f (behind fs) (All-head IsField f fs a) ∙ read_behind [] (digits_value 10 f) fs (All-tail IsField f fs a) ∙ ap Some (sym m)

pub fields_write_numbers : FieldsWriteNumbers
fields_write_numbers text ns = (reads text ns, λ w. read text ns w.0 w.1 w.2 w.3 w.4)
