-- A header without a fault is the header's bytes, and the other way round.
use Rattle.std.proofs.Common.{◌≡◌, ℕ, ◌+◌, ◌*◌, ◌/◌, ◌%◌, ◌^◌, ◌<◌, ◌≤◌, true, false, not, ◌&&◌, eqb, ltb, List, [], ◌∷◌, ◌++◌, length, get_or, drop, is_some, Some, None, sym, refl, ap, ◌∙◌, inl, inr, arith}
use Rattle.std.proofs.lemmas.List.Elements.{All-drop}
use Rattle.std.proofs.lemmas.Bool.{and_parts, cond-false, ltb-false, le-ltb, eqb-true, not-false, not_from_true, cases_Bool}
use Rattle.preferences.specs.declared.policy.Policy.{Policy}
use Rattle.preferences.specs.declared.policy.Policy.TheVariants.{First, Best, Worst}
use Rattle.preferences.specs.Policies.{letter_of, policy_named}
use Rattle.rackfile.specs.Files.{is_mark, is_version, processors_allowed, header_fault, count_in}
use Rattle.rackfile.specs.Format.{header_bytes}
use Rattle.rackfile.specs.Exact.{AreBytes}
use Rattle.rackfile.proofs.Undoing.{cond-none}

-- a letter names the policy that has it
pub named : (p : Policy) → policy_named (letter_of p) ≡ Some p
named First = refl
named Best = refl
named Worst = refl

pub letter_named : (c : ℕ) (p : Policy) → policy_named c ≡ Some p → c ≡ letter_of p
letter_named c p e = elim (cases_Bool (eqb c 70)) [
  | inl h ↦ eqb-true c 70 h ∙ ap letter_of (some_back First p (sym (cond-is c h) ∙ e))
  | inr h ↦ elim (cases_Bool (eqb c 66)) [
    | inl k ↦ eqb-true c 66 k ∙ ap letter_of (some_back Best p (sym (second c h k) ∙ e))
    | inr k ↦ elim (cases_Bool (eqb c 87)) [
      | inl m ↦ eqb-true c 87 m ∙ ap letter_of (some_back Worst p (sym (third c h k m) ∙ e))
      | inr m ↦ let f = sym (fourth c h k m) ∙ e in absurd cc
    ]
  ]
]
  where
    some_back : (x y : Policy) → Some x ≡ Some y → x ≡ y
    some_back x y h = cc

    cond-is : (c : ℕ) → eqb c 70 ≡ true → policy_named c ≡ Some First
    cond-is c h = rw h

    second : (c : ℕ) → eqb c 70 ≡ false → eqb c 66 ≡ true → policy_named c ≡ Some Best
    second c h k = rw (h, k)

    third : (c : ℕ) → eqb c 70 ≡ false → eqb c 66 ≡ false → eqb c 87 ≡ true → policy_named c ≡ Some Worst
    third c h k m = rw (h, k, m)

    fourth : (c : ℕ) → eqb c 70 ≡ false → eqb c 66 ≡ false → eqb c 87 ≡ false → policy_named c ≡ None
    fourth c h k m = rw (h, k, m)

-- the first nine bytes, one by one
nine : (s : List ℕ) → 9 ≤ length s → s ≡ get_or s 0 0 ∷ (get_or s 1 0 ∷ (get_or s 2 0 ∷ (get_or s 3 0 ∷ (get_or s 4 0 ∷ (get_or s 5 0 ∷ (get_or s 6 0 ∷ (get_or s 7 0 ∷ (get_or s 8 0 ∷ drop 9 s))))))))
nine [] l = absurd (omega arith)
nine (a ∷ []) l = absurd (omega arith)
nine (a ∷ (b ∷ [])) l = absurd (omega arith)
nine (a ∷ (b ∷ (c ∷ []))) l = absurd (omega arith)
nine (a ∷ (b ∷ (c ∷ (d ∷ [])))) l = absurd (omega arith)
nine (a ∷ (b ∷ (c ∷ (d ∷ (e ∷ []))))) l = absurd (omega arith)
nine (a ∷ (b ∷ (c ∷ (d ∷ (e ∷ (f ∷ [])))))) l = absurd (omega arith)
nine (a ∷ (b ∷ (c ∷ (d ∷ (e ∷ (f ∷ (g ∷ []))))))) l = absurd (omega arith)
nine (a ∷ (b ∷ (c ∷ (d ∷ (e ∷ (f ∷ (g ∷ (h ∷ [])))))))) l = absurd (omega arith)
nine (a ∷ (b ∷ (c ∷ (d ∷ (e ∷ (f ∷ (g ∷ (h ∷ (i ∷ s))))))))) l = refl

pub record HeaderBack (s : List ℕ) (p : Policy) : Type 0 where
  pub bytes : s ≡ header_bytes p (get_or s 6 0) (count_in s) ++ drop 9 s
  pub long : 9 ≤ length s
  pub processors : processors_allowed (get_or s 6 0) ≡ true
  pub few : count_in s < 2 ^ 16
  pub rest : AreBytes (drop 9 s)

pub header_back : (whole : ℕ) (s : List ℕ) (p : Policy) → AreBytes s → header_fault whole s ≡ None → policy_named (get_or s 5 0) ≡ Some p → HeaderBack s p
header_back whole s p b e named_by =
    let c1 = cond-none (ltb (length s) 3) _ _ e in
    let c2 = cond-none (not (is_mark (get_or s 0 0) (get_or s 1 0) (get_or s 2 0))) _ _ c1.1 in
    let c3 = cond-none (ltb (length s) 5) _ _ c2.1 in
    let c4 = cond-none (not (is_version (get_or s 3 0) (get_or s 4 0))) _ _ c3.1 in
    let c5 = cond-none (ltb (length s) 6) _ _ c4.1 in
    let c6 = cond-none (not (is_some (policy_named (get_or s 5 0)))) _ _ c5.1 in
    let c7 = cond-none (ltb (length s) 7) _ _ c6.1 in
    let c8 = cond-none (not (processors_allowed (get_or s 6 0))) _ _ c7.1 in
    let c9 = cond-none (ltb (length s) 9) _ _ c8.1 in
    let long = ltb-false (length s) 9 c9.0 in
    let mark = not-false (is_mark (get_or s 0 0) (get_or s 1 0) (get_or s 2 0)) c2.0 in
    let m1 = and_parts (eqb (get_or s 0 0) 82) (eqb (get_or s 1 0) 65 && eqb (get_or s 2 0) 75) mark in
    let m2 = and_parts (eqb (get_or s 1 0) 65) (eqb (get_or s 2 0) 75) m1.1 in
    let r = eqb-true (get_or s 0 0) 82 m1.0 in
    let a = eqb-true (get_or s 1 0) 65 m2.0 in
    let k = eqb-true (get_or s 2 0) 75 m2.1 in
    let version = eqb-true (get_or s 3 0 * 256 + get_or s 4 0) 1 (not-false (is_version (get_or s 3 0) (get_or s 4 0)) c4.0) in
    let high : get_or s 3 0 ≡ 0 = omega arith in
    let low : get_or s 4 0 ≡ 1 = omega arith in
    let letter = letter_named (get_or s 5 0) p named_by in
    let b7 = b 7 0 (omega arith) in
    let b8 = b 8 0 (omega arith) in
    let more : get_or s 7 0 ≡ count_in s / 256 = omega arith in
    let less : get_or s 8 0 ≡ count_in s % 256 = omega arith in
    let n9 = nine s long in
    record {
      bytes = cc;
      long = long;
      processors = not-false (processors_allowed (get_or s 6 0)) c8.0;
      few = omega arith;
      rest = All-drop (λ z. z < 256) 9 s b;
    }

-- the bytes of a header have no fault
pub header_read : (whole : ℕ) (p : Policy) (m count : ℕ) (r : List ℕ) → processors_allowed m ≡ true → header_fault whole (header_bytes p m count ++ r) ≡ None
header_read whole p m count r h =
    let s = header_bytes p m count ++ r in
    let some : is_some (policy_named (letter_of p)) ≡ true = ap is_some (named p) in
    cond-false (ltb (length s) 3) _ _ (le-ltb (length s) 3 (omega arith))
    ∙ cond-false (ltb (length s) 5) _ _ (le-ltb (length s) 5 (omega arith))
    ∙ cond-false (ltb (length s) 6) _ _ (le-ltb (length s) 6 (omega arith))
    ∙ cond-false (not (is_some (policy_named (letter_of p)))) _ _ (not_from_true (is_some (policy_named (letter_of p))) some)
    ∙ cond-false (ltb (length s) 7) _ _ (le-ltb (length s) 7 (omega arith))
    ∙ cond-false (not (processors_allowed m)) _ _ (not_from_true (processors_allowed m) h)
    ∙ cond-false (ltb (length s) 9) _ _ (le-ltb (length s) 9 (omega arith))

-- and say their count
pub count_read : (p : Policy) (m count : ℕ) (r : List ℕ) → count_in (header_bytes p m count ++ r) ≡ count
count_read p m count r = omega arith
