-- From what was read back to the bytes.
use Rattle.std.proofs.Common.{◌≡◌, ℕ, ◌+◌, ◌*◌, ◌/◌, ◌%◌, ◌^◌, ◌<◌, Bool, true, false, cond, leb, List, [], ◌∷◌, ◌++◌, length, take, drop, Some, None, Ok, Err, Option, Result, sym, refl, ap, ◌∙◌, subst, arith}
use Rattle.std.proofs.lemmas.List.Elements.{All-drop, All-tail}
use Rattle.std.proofs.lemmas.List.{take-append-drop, length-take-le}
use Rattle.std.proofs.lemmas.Bool.{leb-true}
use Rattle.rackfile.specs.Reading.{field, take_byte, take_word, take_part}
use Rattle.rackfile.specs.Records.{then, next}
use Rattle.rackfile.specs.Format.{word}
use Rattle.rackfile.specs.Exact.{AreBytes}

-- two values that went through alike are the same
pub ok_same : {A E : Type 0} (x y : A) → ◌≡◌ {A = Result A E} (Ok x) (Ok y) → x ≡ y
ok_same x y e = cc

-- a value that was read on went through
pub record Went {A B E F : Type 0} (r : Result A E) (k : A → Result B F) (y : B) : Type 0 where
  pub value : A
  pub read : r ≡ Ok value
  pub on : k value ≡ Ok y

pub then_ok : {A B E F : Type 0} (up : E → F) (r : Result A E) (k : A → Result B F) (y : B) → then up r k ≡ Ok y → Went r k y
then_ok up (Ok x) k y e = record { value = x; read = refl; on = e }
then_ok up (Err f) k y e = absurd cc

pub next_ok : {A B E : Type 0} (r : Result A E) (k : A → Result B E) (y : B) → next r k ≡ Ok y → Went r k y
next_ok (Ok x) k y e = record { value = x; read = refl; on = e }
next_ok (Err f) k y e = absurd cc

pub field_ok : {A : Type 0} (whole : ℕ) (o : Option (A × List ℕ)) (x : A × List ℕ) → field whole o ≡ Ok x → o ≡ Some x
field_ok whole (Some y) x e = let p : y ≡ x = cc in ap (λ z. Some z) p
field_ok whole None x e = absurd cc

pub cond-right : {A E : Type 0} (b : Bool) (p : Result A E) (f : E) (y : A) → cond b p (Err f) ≡ Ok y → (b ≡ true) × (p ≡ Ok y)
cond-right true p f y e = (refl, e)
cond-right false p f y e = absurd cc

pub cond-wrong : {A E : Type 0} (b : Bool) (f : E) (q : Result A E) (y : A) → cond b (Err f) q ≡ Ok y → (b ≡ false) × (q ≡ Ok y)
cond-wrong true f q y e = absurd cc
cond-wrong false f q y e = (refl, e)

pub cond-none : {A : Type 0} (b : Bool) (f : A) (q : Option A) → cond b (Some f) q ≡ None → (b ≡ false) × (q ≡ None)
cond-none true f q e = absurd cc
cond-none false f q e = (refl, e)

some_back : {A B : Type 0} (x y : A × B) → Some x ≡ Some y → x ≡ y
some_back x y e = cc

-- a field and the bytes that it was
pub byte_back : (s : List ℕ) (a : ℕ) (r : List ℕ) → AreBytes s → take_byte s ≡ Some (a, r) → (s ≡ a ∷ r) × AreBytes r
byte_back [] a r b e = absurd cc
byte_back (x ∷ s) a r b e =
    let both = some_back (x, s) (a, r) e in
    let p : x ≡ a = ap (λ z. z.0) both in
    let q : s ≡ r = ap (λ z. z.1) both in
    (ap (λ k. k ∷ s) p ∙ ap (λ l. a ∷ l) q, subst AreBytes q (All-tail (λ z. z < 256) x s b))

pub record WordBack (s : List ℕ) (n : ℕ) (r : List ℕ) : Type 0 where
  pub bytes : s ≡ word n ++ r
  pub small : n < 2 ^ 32
  pub rest : AreBytes r

pub word_back : (s : List ℕ) (n : ℕ) (r : List ℕ) → AreBytes s → take_word s ≡ Some (n, r) → WordBack s n r
word_back [] n r b e = absurd cc
word_back (a ∷ []) n r b e = absurd cc
word_back (a ∷ (b ∷ [])) n r h e = absurd cc
word_back (a ∷ (b ∷ (c ∷ []))) n r h e = absurd cc
word_back (a ∷ (b ∷ (c ∷ (d ∷ s)))) n r h e =
    let both = some_back (a * 16777216 + b * 65536 + c * 256 + d, s) (n, r) e in
    let p : a * 16777216 + b * 65536 + c * 256 + d ≡ n = ap (λ z. z.0) both in
    let q : s ≡ r = ap (λ z. z.1) both in
    let ha = h 0 0 (omega arith) in
    let hb = h 1 0 (omega arith) in
    let hc = h 2 0 (omega arith) in
    let hd = h 3 0 (omega arith) in
    let e1 : a ≡ n / 16777216 = omega arith in
    let e2 : b ≡ n / 65536 % 256 = omega arith in
    let e3 : c ≡ n / 256 % 256 = omega arith in
    let e4 : d ≡ n % 256 = omega arith in
    record {
      bytes = ap (λ k. k ∷ (b ∷ (c ∷ (d ∷ s)))) e1 ∙ ap (λ k. n / 16777216 ∷ (k ∷ (c ∷ (d ∷ s)))) e2 ∙ ap (λ k. n / 16777216 ∷ (n / 65536 % 256 ∷ (k ∷ (d ∷ s)))) e3
          ∙ ap (λ k. n / 16777216 ∷ (n / 65536 % 256 ∷ (n / 256 % 256 ∷ (k ∷ s)))) e4 ∙ ap (λ l. word n ++ l) q;
      small = omega arith;
      rest = subst AreBytes q (All-drop (λ z. z < 256) 4 (a ∷ (b ∷ (c ∷ (d ∷ s)))) h);
    }

pub record PartBack (n : ℕ) (s l r : List ℕ) : Type 0 where
  pub bytes : s ≡ l ++ r
  pub long : length l ≡ n
  pub rest : AreBytes r

pub part_back : (n : ℕ) (s l r : List ℕ) → AreBytes s → take_part n s ≡ Some (l, r) → PartBack n s l r
part_back n s l r b e = go (leb n (length s)) refl e
  where
    go : (t : Bool) → leb n (length s) ≡ t → cond {A = Option (List ℕ × List ℕ)} t (Some (take n s, drop n s)) None ≡ Some (l, r) → PartBack n s l r
    go false q f = absurd cc
    go true q f =
        let both = some_back (take n s, drop n s) (l, r) f in
        let p : take n s ≡ l = ap (λ z. z.0) both in
        let d : drop n s ≡ r = ap (λ z. z.1) both in
        record {
          bytes = sym (take-append-drop n s) ∙ ap (λ x. x ++ drop n s) p ∙ ap (λ x. l ++ x) d;
          long = sym (ap length p) ∙ length-take-le n s (leb-true n (length s) q);
          rest = subst AreBytes d (All-drop (λ z. z < 256) n s b);
        }
